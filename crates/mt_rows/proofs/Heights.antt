-- A tree split at a depth: its upper levels, and what stands below them.
use Rattle.mt_rows.proofs.Prelude.{◌≡◌, ℕ, zero, suc, ◌+◌, List, [], ◌∷◌, Bool, false, refl, sym, ap, ◌∙◌, subst, arith, AllByRecursion, all_map, Span, Fills, Table, expand, level, map_of, Levels, tally, times, Tree, IsRow}
use Rattle.mt_rows.proofs.Lists.{Filled, expand_fills}
use Rattle.mt_rows.proofs.Joins.{Shared, expand_shared}
use Rattle.mt_rows.proofs.Once.{tally_nowhere}

-- what holds of the rows of the upper d levels, which stand above rows of the height k
abbrev pub Upper : (ℕ → Span → Type 0) → Table → ℕ → ℕ → List Span → Type 0
Upper P t zero k xs = Unit {0}
Upper P t (suc d) k xs = AllByRecursion (P (suc (d + k))) xs × Upper P t d k (expand t xs)

-- how many of them pass a test
abbrev pub times_upper : (ℕ → Span → Bool) → Table → ℕ → ℕ → List Span → ℕ
times_upper p t zero k xs = 0
times_upper p t (suc d) k xs = tally (p (suc (d + k))) xs + times_upper p t d k (expand t xs)

-- ---- levels

pub level_next : (t : Table) (d : ℕ) (xs : List Span) → level t (suc d) xs ≡ expand t (level t d xs)
level_next t zero xs = refl
level_next t (suc d) xs = level_next t d (expand t xs)

pub level_level : (t : Table) (d e n : ℕ) (xs : List Span) → n ≡ d + e → level t e (level t d xs) ≡ level t n xs
level_level t zero e n xs sum = let same : e ≡ n = omega arith in ap (λ (j : ℕ). level t j xs) same
level_level t (suc d) e zero xs sum = absurd (omega arith)
level_level t (suc d) e (suc n) xs sum = level_level t d e n (expand t xs) (omega arith)

-- ---- split at a depth

pub map_of_split : (t : Table) (d k h : ℕ) (xs : List Span) → h ≡ d + k → map_of t h xs ≡ map_of t k (level t d xs)
map_of_split t zero k h xs height = let same : h ≡ k = omega arith in ap (λ (j : ℕ). map_of t j xs) same
map_of_split t (suc d) k zero xs height = absurd (omega arith)
map_of_split t (suc d) k (suc h) xs height = map_of_split t d k h (expand t xs) (omega arith)

pub times_split : (p : ℕ → Span → Bool) (t : Table) (d k h : ℕ) (xs : List Span) → h ≡ d + k → times p t h xs ≡ times_upper p t d k xs + times p t k (level t d xs)
times_split p t zero k h xs height = let same : h ≡ k = omega arith in ap (λ (j : ℕ). times p t j xs) same ∙ omega arith
times_split p t (suc d) k zero xs height = absurd (omega arith)
times_split p t (suc d) k (suc h) xs height =
    let below = times_split p t d k h (expand t xs) (omega arith) in
    let same : h ≡ d + k = omega arith in
    let here = ap (λ (j : ℕ). tally (p (suc j)) xs) same in
    omega (arith, below, here)

pub levels_upper : (P : ℕ → Span → Type 0) (t : Table) (d k h : ℕ) (xs : List Span) → h ≡ d + k → Levels P t h xs → Upper P t d k xs
levels_upper P t zero k h xs height rows = tt
levels_upper P t (suc d) k zero xs height rows = absurd (omega arith)
levels_upper P t (suc d) k (suc h) xs height rows =
    let same : h ≡ d + k = omega arith in
    (subst (λ (j : ℕ). AllByRecursion (P (suc j)) xs) same rows.0, levels_upper P t d k h (expand t xs) same rows.1)

pub levels_lower : (P : ℕ → Span → Type 0) (t : Table) (d k h : ℕ) (xs : List Span) → h ≡ d + k → Levels P t h xs → Levels P t k (level t d xs)
levels_lower P t zero k h xs height rows = let same : h ≡ k = omega arith in subst (λ (j : ℕ). Levels P t j xs) same rows
levels_lower P t (suc d) k zero xs height rows = absurd (omega arith)
levels_lower P t (suc d) k (suc h) xs height rows = levels_lower P t d k h (expand t xs) (omega arith) rows.1

pub levels_both : (P : ℕ → Span → Type 0) (t : Table) (d k h : ℕ) (xs : List Span) → h ≡ d + k → Upper P t d k xs → Levels P t k (level t d xs) → Levels P t h xs
levels_both P t zero k h xs height upper lower = let same : k ≡ h = omega arith in subst (λ (j : ℕ). Levels P t j xs) same lower
levels_both P t (suc d) k zero xs height upper lower = absurd (omega arith)
levels_both P t (suc d) k (suc h) xs height upper lower =
    let same : d + k ≡ h = omega arith in
    (subst (λ (j : ℕ). AllByRecursion (P (suc j)) xs) same upper.0, levels_both P t d k h (expand t xs) (sym same) upper.1 lower)

-- the rows of a height
pub level_rows : (P : ℕ → Span → Type 0) (t : Table) (d k h : ℕ) (xs : List Span) → h ≡ d + k → Levels P t h xs → AllByRecursion (P k) (level t d xs)
level_rows P t d k h xs height rows = here k (levels_lower P t d k h xs height rows)
  where
    here : (k : ℕ) → Levels P t k (level t d xs) → AllByRecursion (P k) (level t d xs)
    here zero rows = rows
    here (suc k) rows = rows.0

-- the rows of a height, and all above them
pub upper_more : (P : ℕ → Span → Type 0) (t : Table) (d k : ℕ) (xs : List Span) → Upper P t d (suc k) xs → AllByRecursion (P (suc k)) (level t d xs) → Upper P t (suc d) k xs
upper_more P t zero k xs upper here = let same : suc k ≡ suc (zero + k) = omega arith in (subst (λ (j : ℕ). AllByRecursion (P j) xs) same here, tt)
upper_more P t (suc d) k xs upper here =
    let same : suc (d + suc k) ≡ suc (suc d + k) = omega arith in
    (subst (λ (j : ℕ). AllByRecursion (P j) xs) same upper.0, upper_more P t d k (expand t xs) upper.1 here)

pub times_upper_more : (p : ℕ → Span → Bool) (t : Table) (d k : ℕ) (xs : List Span) → times_upper p t (suc d) k xs ≡ times_upper p t d (suc k) xs + tally (p (suc k)) (level t d xs)
times_upper_more p t zero k xs = let same : suc (zero + k) ≡ suc k = omega arith in let here = ap (λ (j : ℕ). tally (p j) xs) same in omega (arith, here)
times_upper_more p t (suc d) k xs =
    let same : suc (suc d + k) ≡ suc (d + suc k) = omega arith in
    let here = ap (λ (j : ℕ). tally (p j) xs) same in
    let below = times_upper_more p t d k (expand t xs) in
    omega (arith, here, below)

-- ---- what holds of the upper levels

pub upper_map : (P Q : ℕ → Span → Type 0) (t : Table) → ((h : ℕ) (x : Span) → P h x → Q h x) → (d k : ℕ) (xs : List Span) → Upper P t d k xs → Upper Q t d k xs
upper_map P Q t f zero k xs upper = tt
upper_map P Q t f (suc d) k xs upper = (all_map (P (suc (d + k))) (Q (suc (d + k))) (f (suc (d + k))) xs upper.0, upper_map P Q t f d k (expand t xs) upper.1)

pub all_both : {A : Type 0} (P Q R : A → Type 0) → ((x : A) → P x → Q x → R x) → (xs : List A) → AllByRecursion P xs → AllByRecursion Q xs → AllByRecursion R xs
all_both P Q R f [] one two = tt
all_both P Q R f (x ∷ xs) one two = (f x one.0 two.0, all_both P Q R f xs one.1 two.1)

pub upper_both : (P Q R : ℕ → Span → Type 0) (t : Table) → ((h : ℕ) (x : Span) → P h x → Q h x → R h x) → (d k : ℕ) (xs : List Span) → Upper P t d k xs → Upper Q t d k xs → Upper R t d k xs
upper_both P Q R t f zero k xs one two = tt
upper_both P Q R t f (suc d) k xs one two = (all_both (P (suc (d + k))) (Q (suc (d + k))) (R (suc (d + k))) (f (suc (d + k))) xs one.0 two.0, upper_both P Q R t f d k (expand t xs) one.1 two.1)

pub levels_pair : (P Q R : ℕ → Span → Type 0) (t : Table) → ((h : ℕ) (x : Span) → P h x → Q h x → R h x) → (h : ℕ) (xs : List Span) → Levels P t h xs → Levels Q t h xs → Levels R t h xs
levels_pair P Q R t f zero xs one two = all_both (P zero) (Q zero) (R zero) (f zero) xs one two
levels_pair P Q R t f (suc h) xs one two = (all_both (P (suc h)) (Q (suc h)) (R (suc h)) (f (suc h)) xs one.0 two.0, levels_pair P Q R t f h (expand t xs) one.1 two.1)

-- what is not counted there is nowhere there
pub upper_nowhere : (p : ℕ → Span → Bool) (t : Table) (d k : ℕ) (xs : List Span) → times_upper p t d k xs ≡ 0 → Upper (λ (h : ℕ) (x : Span). p h x ≡ false) t d k xs
upper_nowhere p t zero k xs none = tt
upper_nowhere p t (suc d) k xs none = (tally_nowhere (p (suc (d + k))) xs (omega arith), upper_nowhere p t d k (expand t xs) (omega arith))

-- the rows of a level fill what the rows above them fill
pub level_fills : (t : Tree) (d k lo hi : ℕ) (xs : List Span) → Upper (IsRow t) t.table d k xs → Fills lo hi xs → Fills lo hi (level t.table d xs)
level_fills t zero k lo hi xs upper fills = fills
level_fills t (suc d) k lo hi xs upper fills =
    level_fills t d k lo hi (expand t.table xs) upper.1 (expand_fills t.table lo hi xs (all_map (IsRow t (suc (d + k))) (Filled t.table) (λ x row. row.pivots.fills) xs upper.0) fills)

-- ---- where two tables have the same spans in the upper levels

pub level_shared : (t t' : Table) (d k : ℕ) (xs : List Span) → Upper (Shared t t') t d k xs → level t' d xs ≡ level t d xs
level_shared t t' zero k xs same = refl
level_shared t t' (suc d) k xs same = ap (level t' d) (expand_shared t t' xs same.0) ∙ level_shared t t' d k (expand t xs) same.1

-- every one of these levels has the same rows
pub level_shared_above : (t t' : Table) (d e n k : ℕ) (xs : List Span) → n ≡ d + e → Upper (Shared t t') t n k xs → level t' d xs ≡ level t d xs
level_shared_above t t' zero e n k xs sum same = refl
level_shared_above t t' (suc d) e zero k xs sum same = absurd (omega arith)
level_shared_above t t' (suc d) e (suc n) k xs sum same = ap (level t' d) (expand_shared t t' xs same.0) ∙ level_shared_above t t' d e n k (expand t xs) (omega arith) same.1

pub times_upper_shared : (p : ℕ → Span → Bool) (t t' : Table) (d k : ℕ) (xs : List Span) → Upper (Shared t t') t d k xs → times_upper p t' d k xs ≡ times_upper p t d k xs
times_upper_shared p t t' zero k xs same = refl
times_upper_shared p t t' (suc d) k xs same = ap (λ (n : ℕ). tally (p (suc (d + k))) xs + n) (ap (times_upper p t' d k) (expand_shared t t' xs same.0) ∙ times_upper_shared p t t' d k (expand t xs) same.1)

pub upper_shared : (P : ℕ → Span → Type 0) (t t' : Table) (d k : ℕ) (xs : List Span) → Upper (Shared t t') t d k xs → Upper P t d k xs → Upper P t' d k xs
upper_shared P t t' zero k xs same upper = tt
upper_shared P t t' (suc d) k xs same upper = (upper.0, subst (Upper P t' d k) (sym (expand_shared t t' xs same.0)) (upper_shared P t t' d k (expand t xs) same.1 upper.1))

-- A row that is reached stands on a level of the tree, and just once.
use Rattle.mt_rows.proofs.Prelude.{◌≡◌, ◌≢◌, ◌⊎◌, ℕ, zero, suc, ◌+◌, ◌<◌, ◌≤◌, ◌==◌, List, [], ◌∷◌, ◌++◌, Some, Bool, true, false, refl, sym, ap, ◌∙◌, subst, inl, inr, arith, eq-eqb, lt-ltb, AllByRecursion, slice_get, cases_Bool, eqb-true, ltb-true, ltb-false, deepest, first_row, Leaf, row_in, named_kind, Names-named_kind, Span, Table, spans_in, root_span, expand, level, Levels, one_if, tally, times, is_row_of, IsBelow, reached_in, height_in, Tree, IsRow, Stands, kind_on, is_reached, StandsAt, root_of}
use Rattle.mt_rows.specs.Sheet as sheet
use Rattle.mt_rows.proofs.Depth.{rows_by_depth, height_by_depth}
use Rattle.mt_rows.proofs.Once.{once}
use Rattle.mt_rows.proofs.Heights.{level_next, level_rows}
use Rattle.mt_rows.proofs.InnerKinds.{inner_not_named}

-- ---- one of a list

abbrev pub IsOneOf : {A : Type 0} → A → List A → Type 0
IsOneOf x [] = ⊥
IsOneOf x (y ∷ ys) = (x ≡ y) ⊎ IsOneOf x ys

pub one_of_get : {A : Type 0} (xs : List A) (i : ℕ) (x : A) → slice_get xs i ≡ Some x → IsOneOf x xs
one_of_get [] i x at = absurd (cc)
one_of_get (y ∷ xs) zero x at = let same : x ≡ y = cc in inl same
one_of_get (y ∷ xs) (suc i) x at = inr (one_of_get xs i x at)

pub get_one_of : {A : Type 0} (xs : List A) (x : A) → IsOneOf x xs → (i : ℕ) × (slice_get xs i ≡ Some x)
get_one_of [] x one = absurd one
get_one_of (y ∷ xs) x (inl same) = (zero, ap (λ z. Some z) (sym same))
get_one_of (y ∷ xs) x (inr behind) = let at = get_one_of xs x behind in (suc at.0, at.1)

pub one_of_middle : {A : Type 0} (front back : List A) (x : A) → IsOneOf x (front ++ (x ∷ back))
one_of_middle [] back x = inl refl
one_of_middle (y ∷ front) back x = inr (one_of_middle front back x)

pub one_of_parts : {A : Type 0} (xs front back : List A) (x : A) → xs ≡ front ++ (x ∷ back) → IsOneOf x xs
one_of_parts xs front back x parts = subst (IsOneOf x) (sym parts) (one_of_middle front back x)

pub parts_of_one : {A : Type 0} (xs : List A) (x : A) → IsOneOf x xs → (front : List A) × (back : List A) × (xs ≡ front ++ (x ∷ back))
parts_of_one [] x one = absurd one
parts_of_one (y ∷ xs) x (inl same) = ([], xs, ap (λ z. z ∷ xs) (sym same))
parts_of_one (y ∷ xs) x (inr behind) = let parts = parts_of_one xs x behind in (y ∷ parts.0, parts.1, ap (λ ys. y ∷ ys) parts.2)

pub one_of_left : {A : Type 0} (xs ys : List A) (x : A) → IsOneOf x xs → IsOneOf x (xs ++ ys)
one_of_left [] ys x one = absurd one
one_of_left (y ∷ xs) ys x (inl same) = inl same
one_of_left (y ∷ xs) ys x (inr behind) = inr (one_of_left xs ys x behind)

pub one_of_right : {A : Type 0} (xs ys : List A) (x : A) → IsOneOf x ys → IsOneOf x (xs ++ ys)
one_of_right [] ys x one = one
one_of_right (y ∷ xs) ys x one = inr (one_of_right xs ys x one)

pub one_of_either : {A : Type 0} (xs ys : List A) (x : A) → IsOneOf x (xs ++ ys) → IsOneOf x xs ⊎ IsOneOf x ys
one_of_either [] ys x one = inr one
one_of_either (y ∷ xs) ys x (inl same) = inl (inl same)
one_of_either (y ∷ xs) ys x (inr behind) = elim (one_of_either xs ys x behind) [ inl left ↦ inl (inr left) | inr right ↦ inr right ]

pub all_one_of : {A : Type 0} (P : A → Type 0) (xs : List A) (x : A) → AllByRecursion P xs → IsOneOf x xs → P x
all_one_of P [] x each one = absurd one
all_one_of P (y ∷ xs) x each (inl same) = subst P (sym same) each.0
all_one_of P (y ∷ xs) x each (inr behind) = all_one_of P xs x each.1 behind

pub all_of_each : {A : Type 0} (P : A → Type 0) (xs : List A) → ((x : A) → IsOneOf x xs → P x) → AllByRecursion P xs
all_of_each P [] each = tt
all_of_each P (x ∷ xs) each = (each x (inl refl), all_of_each P xs (λ y one. each y (inr one)))

pub one_of_expand : (t : Table) (xs : List Span) (y z : Span) → IsOneOf y xs → IsOneOf z (spans_in t y) → IsOneOf z (expand t xs)
one_of_expand t [] y z one here = absurd one
one_of_expand t (x ∷ xs) y z (inl same) here = one_of_left (spans_in t x) (expand t xs) z (subst (λ (v : Span). IsOneOf z (spans_in t v)) same here)
one_of_expand t (x ∷ xs) y z (inr behind) here = one_of_right (spans_in t x) (expand t xs) z (one_of_expand t xs y z behind here)

pub expand_one_of : (t : Table) (xs : List Span) (z : Span) → IsOneOf z (expand t xs) → (y : Span) × IsOneOf y xs × IsOneOf z (spans_in t y)
expand_one_of t [] z one = absurd one
expand_one_of t (x ∷ xs) z one = elim (one_of_either (spans_in t x) (expand t xs) z one) [
  | inl here ↦ (x, inl refl, here)
  | inr behind ↦ let above = expand_one_of t xs z behind in (above.0, inr above.1, above.2)
]

-- ---- what stands below is on a level

no_leaf : (t : Tree) (h : ℕ) (x : Span) → IsRow t (suc h) x → named_kind x.word ≢ Some Leaf
no_leaf t h x row = λ leaf. inner_not_named t.gapped (sym row.name.named ∙ leaf)

pub below_on_level : (t : Table) (d : ℕ) (xs : List Span) (top x : Span) → IsOneOf top xs → IsBelow t d top x → IsOneOf x (level t d xs)
below_on_level t zero xs top x one below = subst (λ (y : Span). IsOneOf y xs) (sym below) one
below_on_level t (suc d) xs top x one below =
    below_on_level t d (expand t xs) below.1.1 x (one_of_expand t xs top below.1.1 one (one_of_get (spans_in t top) below.1.0 below.1.1 below.1.2)) below.1.3

pub level_is_below : (t : Tree) (d k h : ℕ) (xs : List Span) (x : Span) → h ≡ d + k → Levels (IsRow t) t.table h xs → IsOneOf x (level t.table d xs) → (top : Span) × IsOneOf top xs × IsBelow t.table d top x
level_is_below t zero k h xs x height rows one = (x, one, refl)
level_is_below t (suc d) k zero xs x height rows one = absurd (omega arith)
level_is_below t (suc d) k (suc h) xs x height rows one =
    let lower = level_is_below t d k h (expand t.table xs) x (omega arith) rows.1 one in
    let above = expand_one_of t.table xs lower.0 lower.1 in
    let at = get_one_of (spans_in t.table above.0) lower.0 above.2 in
    (above.0, above.1, (no_leaf t h above.0 (all_one_of (IsRow t (suc h)) xs above.0 rows.0 above.1), (at.0, lower.0, at.1, lower.2)))

-- nothing stands below the leaves
pub below_low : (t : Tree) (d h : ℕ) (xs : List Span) (top x : Span) → Levels (IsRow t) t.table h xs → IsOneOf top xs → IsBelow t.table d top x → d ≤ h
below_low t zero h xs top x rows one below = omega arith
below_low t (suc d) zero xs top x rows one below = absurd (below.0 (all_one_of (IsRow t zero) xs top rows one).name.named)
below_low t (suc d) (suc h) xs top x rows one below =
    let low = below_low t d h (expand t.table xs) below.1.1 x rows.1 (one_of_expand t.table xs top below.1.1 one (one_of_get (spans_in t.table top) below.1.0 below.1.1 below.1.2)) below.1.3 in
    omega arith

-- ---- what is counted stands somewhere

pub tally_some : {A : Type 0} (p : A → Bool) (xs : List A) (x : A) → IsOneOf x xs → p x ≡ true → 1 ≤ tally p xs
tally_some p [] x one passes = absurd one
tally_some p (y ∷ xs) x (inl same) passes = let here : p y ≡ true = subst (λ z. p z ≡ true) same passes in rw here (omega arith)
tally_some p (y ∷ xs) x (inr behind) passes = let some = tally_some p xs x behind passes in omega arith

pub times_some : (p : ℕ → Span → Bool) (t : Table) (d k h : ℕ) (xs : List Span) (x : Span) → h ≡ d + k → IsOneOf x (level t d xs) → p k x ≡ true → 1 ≤ times p t h xs
times_some p t zero k h xs x height one passes =
    let same : k ≡ h = omega arith in
    least h (tally_some (p h) xs x one (subst (λ (n : ℕ). p n x ≡ true) same passes))
  where
    least : (h : ℕ) → 1 ≤ tally (p h) xs → 1 ≤ times p t h xs
    least zero here = here
    least (suc h) here = omega arith
times_some p t (suc d) k zero xs x height one passes = absurd (omega arith)
times_some p t (suc d) k (suc h) xs x height one passes = let below = times_some p t d k h (expand t xs) x (omega arith) one passes in omega arith

-- x stands on a level, so many above the leaves
pub record OnLevel (t : Table) (h : ℕ) (xs : List Span) (k : ℕ) (x : Span) : Type 0 where
  pub depth : ℕ
  pub height : h ≡ depth + k
  pub one : IsOneOf x (level t depth xs)

-- what holds of the rows of all levels holds of one of a level
pub levels_at : (P : ℕ → Span → Type 0) (t : Table) (h k : ℕ) (xs : List Span) (x : Span) → Levels P t h xs → OnLevel t h xs k x → P k x
levels_at P t h k xs x rows on = all_one_of (P k) (level t on.depth xs) x (level_rows P t on.depth k h xs on.height rows) on.one

pub tally_place : {A : Type 0} (p : A → Bool) (xs : List A) → 1 ≤ tally p xs → (x : A) × IsOneOf x xs × (p x ≡ true)
tally_place p [] some = absurd (omega arith)
tally_place p (x ∷ xs) some = elim (cases_Bool (p x)) [
  | inl passes ↦ (x, inl refl, passes)
  | inr fails ↦ let place = tally_place p xs (let behind : 1 ≤ 0 + tally p xs = subst (λ (b : Bool). 1 ≤ one_if b + tally p xs) fails some in omega arith) in (place.0, inr place.1, place.2)
]

all_from : {A : Type 0} (P : A → Type 0) (xs : List A) → ((x : A) → IsOneOf x xs → P x) → AllByRecursion P xs
all_from P [] f = tt
all_from P (x ∷ xs) f = (f x (inl refl), all_from P xs (λ y one. f y (inr one)))

-- what holds of each row that stands low enough holds below these
pub levels_from : (P : ℕ → Span → Type 0) (t : Table) (h : ℕ) (xs : List Span) (k d : ℕ) → h ≡ d + k → ((m : ℕ) (x : Span) → m ≤ k → OnLevel t h xs m x → P m x) → Levels P t k (level t d xs)
levels_from P t h xs zero d height each = all_from (P zero) (level t d xs) (λ x one. each zero x (omega arith) (record { depth = d; height = height; one = one }))
levels_from P t h xs (suc k) d height each = (
  all_from (P (suc k)) (level t d xs) (λ x one. each (suc k) x (omega arith) (record { depth = d; height = height; one = one })),
  subst (Levels P t k) (level_next t d xs) (levels_from P t h xs k (suc d) (omega arith) (λ m x low on. each m x (omega arith) on)),
)

pub times_place : (p : ℕ → Span → Bool) (t : Table) (h : ℕ) (xs : List Span) → 1 ≤ times p t h xs → (k : ℕ) × (x : Span) × OnLevel t h xs k x × (p k x ≡ true)
times_place p t zero xs some = let place = tally_place (p zero) xs some in (zero, place.0, record { depth = zero; height = omega arith; one = place.1 }, place.2)
times_place p t (suc h) xs some = either (tally (p (suc h)) xs) refl (λ below. times_place p t h (expand t xs) below)
  where
    either : (n : ℕ) → tally (p (suc h)) xs ≡ n → (1 ≤ times p t h (expand t xs) → (k : ℕ) × (x : Span) × OnLevel t h (expand t xs) k x × (p k x ≡ true)) → (k : ℕ) × (x : Span) × OnLevel t (suc h) xs k x × (p k x ≡ true)
    either zero none lower =
        let place = lower (omega arith) in
        let on = place.2 in let height = on.height in
        (place.0, place.1, record { depth = suc on.depth; height = omega arith; one = on.one }, place.3)
    either (suc n) here lower =
        let place = tally_place (p (suc h)) xs (omega arith) in
        (suc h, place.0, record { depth = zero; height = omega arith; one = place.1 }, place.2)

-- ---- what is counted once stands in one place

pub tally_one : {A : Type 0} (p : A → Bool) (xs : List A) (x y : A) → tally p xs ≤ 1 → IsOneOf x xs → IsOneOf y xs → p x ≡ true → p y ≡ true → x ≡ y
tally_one p [] x y most one_x one_y at_x at_y = absurd one_x
tally_one p (z ∷ zs) x y most (inl same_x) (inl same_y) at_x at_y = same_x ∙ sym same_y
tally_one p (z ∷ zs) x y most (inl same_x) (inr behind_y) at_x at_y =
    let here : p z ≡ true = subst (λ v. p v ≡ true) same_x at_x in
    let two : 1 + tally p zs ≤ 1 = rw here at most in
    let some = tally_some p zs y behind_y at_y in
    absurd (omega arith)
tally_one p (z ∷ zs) x y most (inr behind_x) (inl same_y) at_x at_y =
    let here : p z ≡ true = subst (λ v. p v ≡ true) same_y at_y in
    let two : 1 + tally p zs ≤ 1 = rw here at most in
    let some = tally_some p zs x behind_x at_x in
    absurd (omega arith)
tally_one p (z ∷ zs) x y most (inr behind_x) (inr behind_y) at_x at_y = tally_one p zs x y (omega arith) behind_x behind_y at_x at_y

-- those on the highest level are among those on all
pub here_le : (p : ℕ → Span → Bool) (t : Table) (h : ℕ) (xs : List Span) → tally (p h) xs ≤ times p t h xs
here_le p t zero xs = omega arith
here_le p t (suc h) xs = omega arith

-- of a test that does not look at heights
module _ (p : Span → Bool) (t : Table) where
  abbrev passes : ℕ → Span → Bool
  passes h x = p x

  pub times_one : (d e k l h : ℕ) (xs : List Span) (x y : Span) → times passes t h xs ≤ 1 → h ≡ d + k → h ≡ e + l → IsOneOf x (level t d xs) → IsOneOf y (level t e xs) → p x ≡ true → p y ≡ true → (d ≡ e) × (x ≡ y)
  times_one zero zero k l h xs x y most height_x height_y one_x one_y at_x at_y = (refl, (let here = here_le passes t h xs in tally_one p xs x y (omega arith) one_x one_y at_x at_y))
  times_one zero (suc e) k l zero xs x y most height_x height_y one_x one_y at_x at_y = absurd (omega arith)
  times_one zero (suc e) k l (suc h) xs x y most height_x height_y one_x one_y at_x at_y =
      let here = tally_some p xs x one_x at_x in
      let below = times_some passes t e l h (expand t xs) y (omega arith) one_y at_y in
      absurd (omega arith)
  times_one (suc d) zero k l zero xs x y most height_x height_y one_x one_y at_x at_y = absurd (omega arith)
  times_one (suc d) zero k l (suc h) xs x y most height_x height_y one_x one_y at_x at_y =
      let here = tally_some p xs y one_y at_y in
      let below = times_some passes t d k h (expand t xs) x (omega arith) one_x at_x in
      absurd (omega arith)
  times_one (suc d) (suc e) k l zero xs x y most height_x height_y one_x one_y at_x at_y = absurd (omega arith)
  times_one (suc d) (suc e) k l (suc h) xs x y most height_x height_y one_x one_y at_x at_y =
      let same = times_one d e k l h (expand t xs) x y (omega arith) (omega arith) (omega arith) one_x one_y at_x at_y in
      (ap suc same.0, same.1)

-- ---- in a tree

module _ (t : Tree) (h : ℕ) (stands : Stands t h) where
  -- the words and the root word of the tree
  abbrev pub words : sheet.Rooted
  words = record { rows = t.rows; table = t.table; root = t.root }

  abbrev root : Span
  root = root_span t.table t.root

  -- how often a row is reached
  abbrev pub times_in : ℕ → ℕ
  times_in row = times (is_row_of row) t.table h (root_of t)

  pub times_in_once : (row : ℕ) → times_in row ≤ 1
  times_in_once row = once t h row root stands.rows (refl, omega arith, refl)

  pub tally_reached : (row : ℕ) → tally (λ (r : ℕ). r == row) (reached_in t.table t.root) ≡ times_in row
  tally_reached row = rows_by_depth t deepest h row root stands.low stands.rows

  pub reached_times : (row : ℕ) → is_reached words row ≡ true → 1 ≤ times_in row
  reached_times row is = let some = ltb-true 0 (tally (λ (r : ℕ). r == row) (reached_in t.table t.root)) is in let same = tally_reached row in omega arith

  pub times_reached : (row : ℕ) → 1 ≤ times_in row → is_reached words row ≡ true
  times_reached row some = let same = tally_reached row in lt-ltb 0 (tally (λ (r : ℕ). r == row) (reached_in t.table t.root)) (omega arith)

  pub unreached_times : (row : ℕ) → is_reached words row ≡ false → times_in row ≡ 0
  unreached_times row is = let none = ltb-false 0 (tally (λ (r : ℕ). r == row) (reached_in t.table t.root)) is in let same = tally_reached row in omega arith

  pub height_is : height_in t.table t.root ≡ h + 1
  height_is = height_by_depth t deepest h root stands.low stands.rows

  pub below_root : (d k : ℕ) (x : Span) → h ≡ d + k → IsOneOf x (level t.table d (root_of t)) → IsBelow t.table d root x
  below_root d k x height one =
      let top = level_is_below t d k h (root_of t) x height stands.rows one in
      of_root top.0 top.1 top.2
    where
      of_root : (top : Span) → IsOneOf top (root_of t) → IsBelow t.table d top x → IsBelow t.table d root x
      of_root top (inl same) below = subst (λ (y : Span). IsBelow t.table d y x) same below
      of_root top (inr none) below = absurd none

  pub stands_at : (d k : ℕ) (x : Span) → h ≡ d + k → IsOneOf x (level t.table d (root_of t)) → StandsAt words k x
  stands_at d k x height one = record { depth = d; below = below_root d k x height one; levels = let tall = height_is in omega arith }

  pub on_level : (k : ℕ) (x : Span) → StandsAt words k x → OnLevel t.table h (root_of t) k x
  on_level k x at = record {
    depth = at.depth;
    height = let tall = height_is in let levels = at.levels in omega arith;
    one = below_on_level t.table at.depth (root_of t) root x (inl refl) at.below;
  }

  -- a row that stands on a level has the laws of its height
  pub on_level_law : (k : ℕ) (x : Span) → OnLevel t.table h (root_of t) k x → IsRow t k x
  on_level_law k x on = levels_at (IsRow t) t.table h k (root_of t) x stands.rows on

  -- a row that stands on a level is reached
  pub on_level_reached : (k : ℕ) (x : Span) → OnLevel t.table h (root_of t) k x → 1 ≤ times_in (row_in x.word)
  on_level_reached k x on = times_some (is_row_of (row_in x.word)) t.table on.depth k h (root_of t) x on.height on.one (eq-eqb (row_in x.word) (row_in x.word) refl)

  -- a row that is reached stands on a level
  pub reached_on_level : (row : ℕ) → 1 ≤ times_in row → (k : ℕ) × (x : Span) × OnLevel t.table h (root_of t) k x × (row_in x.word ≡ row)
  reached_on_level row some = let place = times_place (is_row_of row) t.table h (root_of t) some in (place.0, place.1, place.2, eqb-true (row_in place.1.word) row place.3)

  -- it is a row of the table
  pub reached_number : (row : ℕ) → 1 ≤ times_in row → (first_row ≤ row) × (row < first_row + t.rows)
  reached_number row some =
      let place = reached_on_level row some in
      let law = on_level_law place.0 place.1 place.2 in
      let number = (Names-named_kind place.1.word (kind_on t.gapped place.0) law.name.named).0.0 in
      subst (λ (r : ℕ). (first_row ≤ r) × (r < first_row + t.rows)) place.3 (number, law.name.in_table)

  -- and on just one
  pub one_place : (k l : ℕ) (x y : Span) → OnLevel t.table h (root_of t) k x → OnLevel t.table h (root_of t) l y → row_in x.word ≡ row_in y.word → (k ≡ l) × (x ≡ y)
  one_place k l x y on_x on_y same =
      let place = times_one (λ (z : Span). row_in z.word == row_in y.word) t.table on_x.depth on_y.depth k l h (root_of t) x y (times_in_once (row_in y.word)) on_x.height on_y.height on_x.one on_y.one
      (eq-eqb (row_in x.word) (row_in y.word) same) (eq-eqb (row_in y.word) (row_in y.word) refl) in
      let height_x = on_x.height in let height_y = on_y.height in let depth = place.0 in
      (omega arith, place.1)

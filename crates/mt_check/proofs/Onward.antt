-- The walk through the children of a row, from a slot on.
use Rattle.mt_check.proofs.Prelude.{◌≡◌, ℕ, zero, suc, ◌+◌, ◌<◌, ◌≤◌, ◌&&◌, List, [], ◌∷◌, ◌++◌, Option, Some, Bool, true, false, drop, length, refl, sym, ap, ◌∙◌, arith, length-append, max, slice_get, flat_map, drop_all, and-true, RowKind, Span, parent_at, gap_column, slots_of, column, rows_of, ranges_of, Tree, Fault, Below, longest_of, longest_at, tells_gap, has_gaps_from, Way, faults_below, faults_at, height_from, below_at}

drop_at : {A : Type 0} (xs : List A) (i : ℕ) (x : A) → Some x ≡ slice_get xs i → drop i xs ≡ x ∷ drop (i + 1) xs
drop_at [] i x at = absurd (cc)
drop_at (y ∷ xs) zero x at = let same : x ≡ y = cc in ap (λ z. z ∷ xs) (sym same)
drop_at (y ∷ xs) (suc i) x at = drop_at xs i x at ∙ ap (λ (n : ℕ). x ∷ drop n (y ∷ xs)) (let next : suc (i + 1) ≡ suc i + 1 = omega arith in next)

pub first_front : (xs ys : List Fault) (fault : Fault) → slice_get xs 0 ≡ Some fault → slice_get (xs ++ ys) 0 ≡ Some fault
first_front [] ys fault first = absurd (cc)
first_front (x ∷ xs) ys fault first = first

-- the children of a row, and how much is known of them from a slot on
module _ (t : Tree) (left : ℕ) (kind : RowKind) (number : ℕ) (xs : List Span) where
  abbrev Faults : ℕ → List Span → List Fault
  Faults slot ys = faults_below (faults_at t left) number slot ys

  abbrev rows_below : List Span → ℕ
  rows_below ys = length (flat_map (rows_of t.table left) ys)

  abbrev ranges_below : List Span → ℕ
  ranges_below ys = length (flat_map (ranges_of t.table left) ys)

  abbrev longest_below : List Span → ℕ
  longest_below ys = longest_of (longest_at t.table left) ys

  abbrev gaps_from : ℕ → List Span → Bool
  gaps_from slot ys = has_gaps_from (longest_at t.table left) t.table kind number slot ys

  pub record Onward (slot : ℕ) (start known : Option ℕ) (below : Below) (gaps : Bool) : Type 0 where
    pub faults : Faults slot (drop slot xs) ≡ Faults 0 xs
    pub rows : below.rows + rows_below (drop slot xs) ≡ 1 + rows_below xs
    pub ranges : below.ranges + ranges_below (drop slot xs) ≡ ranges_below xs
    pub longest : max below.longest (longest_below (drop slot xs)) ≡ longest_below xs
    pub gaps_told : (gaps && gaps_from slot (drop slot xs)) ≡ gaps_from 0 xs
    pub first : slot ≡ 0 → known ≡ start
    pub others : 0 < slot → known ≡ Some (height_from t)

  pub onward_begins : (start : Option ℕ) → Onward 0 start start (record { rows = 1; ranges = 0; longest = 0 }) true
  onward_begins start = record { faults = refl; rows = refl; ranges = omega arith; longest = omega arith; gaps_told = refl; first = λ _. refl; others = λ some. absurd (omega arith) }

  -- ---- one more child

  child_next : (f : Span → ℕ) (slot : ℕ) (x : Span) → Some x ≡ slice_get xs slot → (g : List Span → ℕ) → ((ys : List Span) → g (x ∷ ys) ≡ f x + g ys) → g (drop slot xs) ≡ f x + g (drop (slot + 1) xs)
  child_next f slot x at g cons = ap g (drop_at xs slot x at) ∙ cons (drop (slot + 1) xs)

  and_more : (a b c : Bool) → ((a && b) && c) ≡ (a && (b && c))
  and_more true b c = refl
  and_more false b c = refl

  module _ (slot : ℕ) (start known : Option ℕ) (below : Below) (gaps : Bool) (onward : Onward slot start known below gaps) (x : Span) (at : Some x ≡ slice_get xs slot) where
    abbrev way : Way
    way = record { from = number; parent = parent_at number slot }

    abbrev gap_word : ℕ
    gap_word = column t.table number (gap_column (slots_of t.table.width kind) slot)

    rows_next : rows_below (drop slot xs) ≡ length (rows_of t.table left x) + rows_below (drop (slot + 1) xs)
    rows_next = child_next (λ (y : Span). length (rows_of t.table left y)) slot x at rows_below (λ ys. length-append (rows_of t.table left x) (flat_map (rows_of t.table left) ys))

    ranges_next : ranges_below (drop slot xs) ≡ length (ranges_of t.table left x) + ranges_below (drop (slot + 1) xs)
    ranges_next = child_next (λ (y : Span). length (ranges_of t.table left y)) slot x at ranges_below (λ ys. length-append (ranges_of t.table left x) (flat_map (ranges_of t.table left) ys))

    longest_next : longest_below (drop slot xs) ≡ max (longest_at t.table left x) (longest_below (drop (slot + 1) xs))
    longest_next = ap longest_below (drop_at xs slot x at)

    faults_next : Faults slot (drop slot xs) ≡ faults_at t left way x ++ Faults (slot + 1) (drop (slot + 1) xs)
    faults_next = ap (Faults slot) (drop_at xs slot x at)

    gaps_next : gaps_from slot (drop slot xs) ≡ (tells_gap kind gap_word (longest_at t.table left x) && gaps_from (slot + 1) (drop (slot + 1) xs))
    gaps_next = ap (gaps_from slot) (drop_at xs slot x at)

    -- its counts fit where those of all children do
    pub rows_within : (child : Below) → child ≡ below_at t left x → below.rows + child.rows ≤ 1 + rows_below xs
    rows_within child is = let rows = onward.rows in let one = ap (λ (b : Below). b.rows) is in omega (arith, rows_next)

    pub ranges_within : (child : Below) → child ≡ below_at t left x → below.ranges + child.ranges ≤ ranges_below xs
    ranges_within child is = let ranges = onward.ranges in let one = ap (λ (b : Below). b.ranges) is in omega (arith, ranges_next)

    -- the child has no fault
    pub onward_next : (child below' : Below) (known' : Option ℕ) (gaps' : Bool) → faults_at t left way x ≡ [] → child ≡ below_at t left x → known' ≡ Some (height_from t)
        → gaps' ≡ (gaps && tells_gap kind gap_word child.longest) → below' ≡ record { rows = below.rows + child.rows; ranges = below.ranges + child.ranges; longest = max below.longest child.longest } → Onward (slot + 1) start known' below' gaps'
    onward_next child below' known' gaps' none is found told more =
        let rows = onward.rows in let ranges = onward.ranges in let longest = onward.longest in
        let one_row = ap (λ (b : Below). b.rows) is in let one_range = ap (λ (b : Below). b.ranges) is in let one_hole = ap (λ (b : Below). b.longest) is in
        let all_rows = ap (λ (b : Below). b.rows) more in let all_ranges = ap (λ (b : Below). b.ranges) more in let all_holes = ap (λ (b : Below). b.longest) more in
        record {
          faults = sym (faults_next ∙ ap (λ (fs : List Fault). fs ++ Faults (slot + 1) (drop (slot + 1) xs)) none) ∙ onward.faults;
          rows = omega (arith, rows_next);
          ranges = omega (arith, ranges_next);
          longest = omega (arith, longest_next);
          gaps_told =
              (λ i. (told ∙ ap (λ (n : ℕ). gaps && tells_gap kind gap_word n) one_hole) i && gaps_from (slot + 1) (drop (slot + 1) xs))
              ∙ (and_more gaps (tells_gap kind gap_word (longest_at t.table left x)) (gaps_from (slot + 1) (drop (slot + 1) xs)) ∙ (ap (λ (b : Bool). gaps && b) (sym gaps_next) ∙ onward.gaps_told));
          first = λ none. absurd (omega arith);
          others = λ some. found;
        }

    -- the child's first fault is the first of all
    pub fault_here : (fault : Fault) → slice_get (faults_at t left way x) 0 ≡ Some fault → slice_get (Faults 0 xs) 0 ≡ Some fault
    fault_here fault first = ap (λ (fs : List Fault). slice_get fs 0) (sym onward.faults ∙ faults_next) ∙ first_front (faults_at t left way x) (Faults (slot + 1) (drop (slot + 1) xs)) fault first

  -- ---- behind the last child

  module _ (slot : ℕ) (start known : Option ℕ) (below : Below) (gaps : Bool) (onward : Onward slot start known below gaps) (past : length xs ≤ slot) where
    none_left : drop slot xs ≡ []
    none_left = drop_all slot xs past

    pub all_faults : Faults 0 xs ≡ []
    all_faults = sym onward.faults ∙ ap (Faults slot) none_left

    pub all_gaps : gaps ≡ gaps_from 0 xs
    all_gaps = sym (and-true gaps) ∙ (ap (λ (ys : List Span). gaps && gaps_from slot ys) (sym none_left) ∙ onward.gaps_told)

    pub all_rows : below.rows ≡ 1 + rows_below xs
    all_rows = let rows = onward.rows in let none = ap rows_below none_left in omega arith

    pub all_ranges : below.ranges ≡ ranges_below xs
    all_ranges = let ranges = onward.ranges in let none = ap ranges_below none_left in omega arith

    pub all_longest : below.longest ≡ longest_below xs
    all_longest = let longest = onward.longest in let none = ap longest_below none_left in omega arith

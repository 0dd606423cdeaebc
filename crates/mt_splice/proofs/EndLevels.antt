-- Rows on the levels of a tree: each has one parent, and one slot in it.
use Rattle.mt_splice.proofs.Prelude.{◌≡◌, ℕ, zero, suc, ◌+◌, ◌≤◌, ◌==◌, ◌&&◌, List, [], ◌∷◌, Some, Bool, true, refl, sym, ap, ◌∙◌, subst, inl, inr, arith, eq-eqb, slice_get, and_parts, eqb-true, row_in, parent_at, Span, Table, column, spans_in, expand, level, Levels, tally, times, is_row_of, Tree, Stands, ParentsFrom, root_of, tally-append, level_next, times_split, IsOneOf, OnLevel, one_of_get, one_of_expand, tally_some, times_in_once, one_place, here_le, all_of_each, Implies}

-- ---- the very place of a span, whose height is k

abbrev pub is_here : ℕ → Span → ℕ → Span → Bool
is_here k x n y = (n == k) && ((y.first == x.first) && ((y.last == x.last) && (y.word == x.word)))

pub here_itself : (k : ℕ) (x : Span) → is_here k x k x ≡ true
here_itself k x = rw (eq-eqb k k refl, eq-eqb x.first x.first refl, eq-eqb x.last x.last refl, eq-eqb x.word x.word refl) refl

pub here_is : (k n : ℕ) (x y : Span) → is_here k x n y ≡ true → (n ≡ k) × (y.first ≡ x.first) × (y.last ≡ x.last) × (y.word ≡ x.word)
here_is k n x y at =
    let a = and_parts (n == k) ((y.first == x.first) && ((y.last == x.last) && (y.word == x.word))) at in
    let b = and_parts (y.first == x.first) ((y.last == x.last) && (y.word == x.word)) a.1 in
    let c = and_parts (y.last == x.last) (y.word == x.word) b.1 in
    (eqb-true n k a.0, eqb-true y.first x.first b.0, eqb-true y.last x.last c.0, eqb-true y.word x.word c.1)

pub here_row : (k : ℕ) (x : Span) → Implies (is_here k x) (is_row_of (row_in x.word))
here_row k x n y at = eq-eqb (row_in y.word) (row_in x.word) (ap row_in (here_is k n x y at).3)

-- ---- what holds at each place

pub levels_each : (P : ℕ → Span → Type 0) (t : Table) (h : ℕ) (xs : List Span) → ((k : ℕ) (x : Span) → OnLevel t h xs k x → P k x) → Levels P t h xs
levels_each P t zero xs each = all_of_each (P zero) xs (λ x one. each zero x (record { depth = zero; height = omega arith; one = one }))
levels_each P t (suc h) xs each = (
  all_of_each (P (suc h)) xs (λ x one. each (suc h) x (record { depth = zero; height = omega arith; one = one })),
  levels_each P t h (expand t xs) (λ k x on. each k x (record { depth = suc on.depth; height = let height = on.height in omega arith; one = on.one })),
)

-- ---- parent words, slot by slot

pub parents_from : (t : Table) (row slot : ℕ) (xs : List Span) → ((i : ℕ) (y : Span) → slice_get xs i ≡ Some y → column t (row_in y.word) 0 ≡ parent_at row (slot + i)) → ParentsFrom t row slot xs
parents_from t row slot [] each = tt
parents_from t row slot (x ∷ xs) each = (
  (let here : slot + 0 ≡ slot = omega arith in each 0 x refl ∙ ap (parent_at row) here),
  parents_from t row (slot + 1) xs (λ i y at. let next : slot + suc i ≡ slot + 1 + i = omega arith in each (suc i) y at ∙ ap (parent_at row) next),
)

pub parents_at : (t : Table) (row slot : ℕ) (xs : List Span) (i : ℕ) (y : Span) → ParentsFrom t row slot xs → slice_get xs i ≡ Some y → column t (row_in y.word) 0 ≡ parent_at row (slot + i)
parents_at t row slot [] i y each at = absurd (cc)
parents_at t row slot (x ∷ xs) zero y each at =
    let same : x ≡ y = cc in let here : slot ≡ slot + 0 = omega arith in
    ap (λ (v : Span). column t (row_in v.word) 0) (sym same) ∙ (each.0 ∙ ap (parent_at row) here)
parents_at t row slot (x ∷ xs) (suc i) y each at = let next : slot + 1 + i ≡ slot + suc i = omega arith in parents_at t row (slot + 1) xs i y each.1 at ∙ ap (parent_at row) next

-- ---- one parent

pub get_once : {A : Type 0} (p : A → Bool) (xs : List A) (i j : ℕ) (y z : A) → tally p xs ≤ 1 → slice_get xs i ≡ Some y → slice_get xs j ≡ Some z → p y ≡ true → p z ≡ true → i ≡ j
get_once p [] i j y z most at_y at_z is_y is_z = absurd (cc)
get_once p (x ∷ xs) zero zero y z most at_y at_z is_y is_z = refl
get_once p (x ∷ xs) zero (suc j) y z most at_y at_z is_y is_z =
    let same : x ≡ y = cc in
    let here : p x ≡ true = ap p same ∙ is_y in
    let two : 1 + tally p xs ≤ 1 = rw here at most in
    let some = tally_some p xs z (one_of_get xs j z at_z) is_z in
    absurd (omega arith)
get_once p (x ∷ xs) (suc i) zero y z most at_y at_z is_y is_z =
    let same : x ≡ z = cc in
    let here : p x ≡ true = ap p same ∙ is_z in
    let two : 1 + tally p xs ≤ 1 = rw here at most in
    let some = tally_some p xs y (one_of_get xs i y at_y) is_y in
    absurd (omega arith)
get_once p (x ∷ xs) (suc i) (suc j) y z most at_y at_z is_y is_z = ap suc (get_once p xs i j y z (omega arith) at_y at_z is_y is_z)

expand_once : (t : Table) (p : Span → Bool) (xs : List Span) (x z : Span) (i j : ℕ) (y v : Span) → tally p (expand t xs) ≤ 1 → IsOneOf x xs → IsOneOf z xs
    → slice_get (spans_in t x) i ≡ Some y → slice_get (spans_in t z) j ≡ Some v → p y ≡ true → p v ≡ true → (x ≡ z) × (i ≡ j)
expand_once t p [] x z i j y v most one_x one_z at_y at_v is_y is_v = absurd one_x
expand_once t p (u ∷ xs) x z i j y v most (inl same_x) (inl same_z) at_y at_v is_y is_v =
    let all = tally-append p (spans_in t u) (expand t xs) in (
      same_x ∙ sym same_z,
      get_once p (spans_in t u) i j y v (omega arith) (subst (λ (w : Span). slice_get (spans_in t w) i ≡ Some y) same_x at_y) (subst (λ (w : Span). slice_get (spans_in t w) j ≡ Some v) same_z at_v) is_y is_v,
    )
expand_once t p (u ∷ xs) x z i j y v most (inl same_x) (inr behind_z) at_y at_v is_y is_v =
    let all = tally-append p (spans_in t u) (expand t xs) in
    let here = tally_some p (spans_in t u) y (one_of_get (spans_in t u) i y (subst (λ (w : Span). slice_get (spans_in t w) i ≡ Some y) same_x at_y)) is_y in
    let behind = tally_some p (expand t xs) v (one_of_expand t xs z v behind_z (one_of_get (spans_in t z) j v at_v)) is_v in
    absurd (omega arith)
expand_once t p (u ∷ xs) x z i j y v most (inr behind_x) (inl same_z) at_y at_v is_y is_v =
    let all = tally-append p (spans_in t u) (expand t xs) in
    let here = tally_some p (spans_in t u) v (one_of_get (spans_in t u) j v (subst (λ (w : Span). slice_get (spans_in t w) j ≡ Some v) same_z at_v)) is_v in
    let behind = tally_some p (expand t xs) y (one_of_expand t xs x y behind_x (one_of_get (spans_in t x) i y at_y)) is_y in
    absurd (omega arith)
expand_once t p (u ∷ xs) x z i j y v most (inr behind_x) (inr behind_z) at_y at_v is_y is_v =
    let all = tally-append p (spans_in t u) (expand t xs) in
    expand_once t p xs x z i j y v (omega arith) behind_x behind_z at_y at_v is_y is_v

level_le : (p : ℕ → Span → Bool) (t : Table) (d k h : ℕ) (xs : List Span) → h ≡ d + k → tally (p k) (level t d xs) ≤ times p t h xs
level_le p t d k h xs height = let split = times_split p t d k h xs height in let here = here_le p t k (level t d xs) in omega arith

module _ (t : Tree) (h : ℕ) (stands : Stands t h) where
  -- what stands in a row stands on the level below it
  pub child_on : (k i : ℕ) (x y : Span) → OnLevel t.table h (root_of t) (suc k) x → slice_get (spans_in t.table x) i ≡ Some y → OnLevel t.table h (root_of t) k y
  child_on k i x y on at = record {
    depth = suc on.depth;
    height = let height = on.height in omega arith;
    one = subst (IsOneOf y) (sym (level_next t.table on.depth (root_of t))) (one_of_expand t.table (level t.table on.depth (root_of t)) x y on.one (one_of_get (spans_in t.table x) i y at));
  }

  -- a row stands in one slot of one row
  pub unique_parent : (k l i j : ℕ) (x z y v : Span) → OnLevel t.table h (root_of t) (suc k) x → OnLevel t.table h (root_of t) (suc l) z
      → slice_get (spans_in t.table x) i ≡ Some y → slice_get (spans_in t.table z) j ≡ Some v → row_in y.word ≡ row_in v.word → (x ≡ z) × (i ≡ j)
  unique_parent k l i j x z y v on_x on_z at_y at_v same =
      let heights = (one_place t h stands k l y v (child_on k i x y on_x at_y) (child_on l j z v on_z at_v) same).0 in
      let height_x = on_x.height in let height_z = on_z.height in
      let depths : on_z.depth ≡ on_x.depth = omega arith in
      let once = times_in_once t h stands (row_in v.word) in
      let le = level_le (is_row_of (row_in v.word)) t.table (suc on_x.depth) k h (root_of t) (omega arith) in
      let next = ap (tally (λ (u : Span). row_in u.word == row_in v.word)) (level_next t.table on_x.depth (root_of t)) in
      expand_once t.table (λ (u : Span). row_in u.word == row_in v.word) (level t.table on_x.depth (root_of t)) x z i j y v (omega arith) on_x.one
      (subst (λ (d : ℕ). IsOneOf z (level t.table d (root_of t))) depths on_z.one) at_y at_v (eq-eqb (row_in y.word) (row_in v.word) same) (eq-eqb (row_in v.word) (row_in v.word) refl)

  -- no row stands in itself
  pub not_own_child : (k i : ℕ) (x y : Span) → OnLevel t.table h (root_of t) (suc k) x → slice_get (spans_in t.table x) i ≡ Some y → row_in y.word ≡ row_in x.word → ⊥
  not_own_child k i x y on at same = let heights = (one_place t h stands k (suc k) y x (child_on k i x y on at) on same).0 in absurd (omega arith)

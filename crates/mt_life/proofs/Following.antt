-- The extents after a publishing store: of each row that is reached its place, of each other what it was.
use Rattle.mt_life.proofs.Prelude.{◌≡◌, ◌⊎◌, ℕ, zero, suc, ◌+◌, ◌<◌, ◌≤◌, List, [], ◌∷◌, length, get_or, true, false, refl, sym, ap, ◌∙◌, subst, inl, inr, ⊎_elim, arith, get_or_past, cases_Bool, cases_lt, Kind, first_row, row_in, Span, height_in, Tree, IsTree, Stands, Rooted, tree_as, is_reached, StandsAt, root_of, OnLevel, on_level, on_level_law, on_level_reached, reached_times, times_reached, reached_on_level, one_place, Extent, extent_at, extent_of, nowhere, HasExtentsOf}
use Rattle.mt_life.proofs.Staying.{true_false}

module _ (kind : Kind) (t : Rooted) (h : ℕ) (stands : Stands (tree_as kind t) h) (before : ℕ → Extent) where
  abbrev T : Tree
  T = tree_as kind t

  abbrev pick : (row : ℕ) → (is_reached t row ≡ true) ⊎ (is_reached t row ≡ false) → Extent
  pick row (inl is) = let at = reached_on_level T h stands row (reached_times T h stands row is) in extent_at at.1 at.0
  pick row (inr not) = before row

  pick_reached : (k : ℕ) (x : Span) (c : (is_reached t (row_in x.word) ≡ true) ⊎ (is_reached t (row_in x.word) ≡ false)) → OnLevel T.table h (root_of T) k x → pick (row_in x.word) c ≡ extent_at x k
  pick_reached k x (inl is) on =
      let at = reached_on_level T h stands (row_in x.word) (reached_times T h stands (row_in x.word) is) in
      let one = one_place T h stands at.0 k at.1 x at.2 on at.3 in
      λ i. extent_at (one.1 i) (one.0 i)
  pick_reached k x (inr not) on = absurd (true_false (is_reached t (row_in x.word)) (times_reached T h stands (row_in x.word) (on_level_reached T h stands k x on)) not)

  pick_other : (row : ℕ) (c : (is_reached t row ≡ true) ⊎ (is_reached t row ≡ false)) → is_reached t row ≡ false → pick row c ≡ before row
  pick_other row (inl is) not = absurd (true_false (is_reached t row) is not)
  pick_other row (inr _) not = refl

  some_follow : (after : ℕ → Extent) × HasExtentsOf t before after
  some_follow = (
    (λ row. pick row (cases_Bool (is_reached t row))),
    record {
      reached = λ k x at. pick_reached k x (cases_Bool (is_reached t (row_in x.word))) (on_level T h stands k x at);
      others = λ row not. pick_other row (cases_Bool (is_reached t row)) not;
    },
  )

-- an empty tree has no row
nothing_stands : (t : Rooted) (k : ℕ) (x : Span) → t.root ≡ 0 → StandsAt t k x → ⊥
nothing_stands t k x empty at =
    let flat : height_in t.table t.root ≡ 0 = subst (λ (root : ℕ). height_in t.table root ≡ 0) (sym empty) refl in
    let levels = at.levels in absurd (omega arith)

-- there are extents that follow, whatever they were before
pub follow : (kind : Kind) (t : Rooted) (before : ℕ → Extent) → IsTree (tree_as kind t) → (after : ℕ → Extent) × HasExtentsOf t before after
follow kind t before (inl empty) = (before, record { reached = λ k x at. absurd (nothing_stands t k x empty at); others = λ row not. refl })
follow kind t before (inr tree) = some_follow kind t tree.0 tree.1 before

-- ---- as a list with an item for each row

abbrev listed : (ℕ → Extent) → ℕ → ℕ → List Extent
listed f i zero = []
listed f i (suc n) = f i ∷ listed f (i + 1) n

length-listed : (f : ℕ → Extent) (i n : ℕ) → length (listed f i n) ≡ n
length-listed f i zero = refl
length-listed f i (suc n) = ap suc (length-listed f (i + 1) n)

get_listed : (f : ℕ → Extent) (i n j : ℕ) → j < n → get_or (listed f i n) j nowhere ≡ f (i + j)
get_listed f i zero j low = absurd (omega arith)
get_listed f i (suc n) zero low = ap f (omega arith)
get_listed f i (suc n) (suc j) low = get_listed f (i + 1) n j (omega arith) ∙ ap f (omega arith)

stands_low : (kind : Kind) (t : Rooted) (k : ℕ) (x : Span) → IsTree (tree_as kind t) → StandsAt t k x → row_in x.word < first_row + t.rows
stands_low kind t k x (inl empty) at = absurd (nothing_stands t k x empty at)
stands_low kind t k x (inr tree) at = (on_level_law (tree_as kind t) tree.0 tree.1 k x (on_level (tree_as kind t) tree.0 tree.1 k x at)).name.in_table

pub follow_listed : (kind : Kind) (t : Rooted) (before : List Extent) → length before ≡ first_row + t.rows → IsTree (tree_as kind t) → (after : List Extent) × (length after ≡ first_row + t.rows) × HasExtentsOf t (extent_of before) (extent_of after)
follow_listed kind t before long tree =
    let some = follow kind t (extent_of before) tree in
    let after = listed some.0 0 (first_row + t.rows) in
    let inside : (row : ℕ) → row < first_row + t.rows → extent_of after row ≡ some.0 row = λ row low. get_listed some.0 0 (first_row + t.rows) row low ∙ ap some.0 (omega arith) in (
      after,
      length-listed some.0 0 (first_row + t.rows),
      record {
        reached = λ k x at. inside (row_in x.word) (stands_low kind t k x tree at) ∙ some.1.reached k x at;
        others = λ row not. ⊎_elim
            (λ (low : row < first_row + t.rows). inside row low ∙ some.1.others row not)
            (λ (past : first_row + t.rows ≤ row). get_or_past after row nowhere (let is = length-listed some.0 0 (first_row + t.rows) in omega arith) ∙ sym (get_or_past before row nowhere (omega arith)))
            (cases_lt row (first_row + t.rows));
      },
    )

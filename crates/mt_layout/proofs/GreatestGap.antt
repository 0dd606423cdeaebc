-- The greatest gap of items, taken one after another.
use Rattle.mt_layout.proofs.Prelude.{◌≡◌, ◌∙◌, ℕ, List, [], ◌∷◌, max, arith, Item, greatest_gap}
use Rattle.std.specs.Prelude.{fold}

greatest_so_far : (n : ℕ) (items : List Item) → fold (λ (gap : ℕ) (x : Item). max gap x.gap) n items ≡ max n (greatest_gap items)
greatest_so_far n [] = omega arith
greatest_so_far n (x ∷ items) = greatest_so_far (max n x.gap) items ∙ regroup n x.gap (greatest_gap items)
  where
    regroup : (a b c : ℕ) → max (max a b) c ≡ max a (max b c)
    regroup a b c = omega arith

pub greatest_by_fold : (items : List Item) → fold (λ (gap : ℕ) (x : Item). max gap x.gap) 0 items ≡ greatest_gap items
greatest_by_fold items = let all = greatest_so_far 0 items in omega arith

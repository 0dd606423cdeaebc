-- The rows of a level written one by one.
use Rattle.mt_splice.proofs.Prelude.{[], ◌≡◌, ℕ, zero, suc, ◌+◌, ◌<◌, ◌≤◌, List, ◌∷◌, length, take, refl, arith, Item, spans_from, Fills, fills_le, after, first_of}

-- ---- where a part begins

pub first_after : (lo from : ℕ) (items : List Item) → from ≤ length items → first_of lo items from ≡ after lo (take from items)
first_after lo zero items within = refl
first_after lo (suc from) [] within = absurd (omega arith)
first_after lo (suc from) (x ∷ items) within = first_after (x.last + 1) from items (omega arith)

pub first_inside : (lo hi from : ℕ) (items : List Item) → from < length items → Fills lo hi (spans_from lo items) → first_of lo items from < hi
first_inside lo hi from [] inside fills = absurd (omega arith)
first_inside lo hi zero (x ∷ items) inside fills = let some = fills.1 in let behind = fills_le (x.last + 1) hi (spans_from (x.last + 1) items) fills.2 in omega arith
first_inside lo hi (suc from) (x ∷ items) inside fills = first_inside (x.last + 1) hi from items (omega arith) fills.2

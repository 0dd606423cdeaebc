-- The way to the first index of what stands in a slot is the way to each of its indexes.
use Rattle.mt_engine.proofs.Prelude.{◌≡◌, ◌≢◌, ℕ, ◌≤◌, ap, ◌∙◌, inl, inr, arith, Kind, greatest, Span, IsTree, IsTreeOf, tree_as, Rooted, handle_in, path_in}
use Rattle.mt_path.proofs.SameSlot as slot
use Rattle.mt_engine.proofs.Slots.{slot_holds}

pub same_way : (t : Rooted) (kind : Kind) (index : ℕ) → IsTreeOf t kind → t.root ≢ 0 → index ≤ greatest t.table.width → path_in t.table t.root (handle_in t index).span.first ≡ path_in t.table t.root index
same_way t kind index tree some within = by tree.words
  where
    by : IsTree (tree_as kind t) → path_in t.table t.root (handle_in t index).span.first ≡ path_in t.table t.root index
    by (inl empty) = absurd (some empty)
    by (inr (h, stands)) =
        let x = slot.x (tree_as kind t) h stands index within in
        let at = slot.at (tree_as kind t) h stands index within in
        let from = at.from in let to = at.to in
        ap (λ (y : Span). path_in t.table t.root y.first) (slot_holds (tree_as kind t) h stands index within)
        ∙ slot.same_path (tree_as kind t) h stands index within x.first (omega arith) (omega arith) (omega arith)

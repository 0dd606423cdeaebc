use Rattle.mt_bulk.proofs.Prelude.{◌≡◌, ◌++◌, ℕ, List, [], ◌∷◌, map, sym, ap, ◌∙◌, append_assoc, zero-add, range_with_len, map-range_with_len_more, parent_at}
use Rattle.mt_bulk.proofs.levels.push_parents.Goals as goal

pub loop-slot-preserved : goal.loop-slot-preserved
loop-slot-preserved c =
    let row = c.args.row in
    let slot = c.loop-slot.slot in
    let old = c.args.parents.now.items in
    let before = map (parent_at row) (range_with_len 0 slot) in
    let value : c.parent_word.result ≡ parent_at row slot = c.parent_word.ensures in
    let pushed : c.push.new.self.items ≡ c.loop-slot.parents.items ++ c.parent_word.result ∷ [] = c.in_ok-push.ensures.items in
    pushed ∙ ((λ i. c.loop-slot.invariant i ++ value i ∷ []) ∙ (append_assoc old before (parent_at row slot ∷ []) ∙ ap (λ (l : List ℕ). old ++ l) (sym (map-range_with_len_more (parent_at row) 0 slot slot (zero-add slot)))))

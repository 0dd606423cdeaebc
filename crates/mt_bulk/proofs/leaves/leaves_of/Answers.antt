use Rattle.mt_bulk.proofs.Prelude.{◌≡◌, ◌+◌, ℕ, List, length, sym, ap, ◌∙◌, subst, arith, first_row, kind_width, Item, Leaf, slots_of, spans_from, Apart, parents_over, rows_up, finds_room, cut, ends_from, leaf_size}
use Rattle.mt_bulk.proofs.Finished.{apart_items}
use Rattle.mt_bulk.proofs.LeafFacts.{leaf_facts}
use Rattle.mt_bulk.proofs.leaves.leaves_of.Goals as goal

pub leaf_ends-requires-clause-apart : goal.leaf_ends-requires-clause-apart
leaf_ends-requires-clause-apart c = subst (λ (l : List Item). Apart (spans_from 0 l)) (sym (c.deref.ensures.value ∙ c.in_ok-items.ensures.items)) (apart_items c.args.kind c.args.ranges.now c.in_ok-items.ensures.good)

pub count_all-requires-clause-ends : goal.count_all-requires-clause-ends
count_all-requires-clause-ends c =
    let same : c.deref.result.now ≡ c.deref-2.result.now = c.deref.ensures.value ∙ sym c.deref-2.ensures.value in
    c.deref-3.ensures.value ∙ (c.in_ok-ends.ensures ∙ (λ i. ends_from 0 (cut (leaf_size (c.leaf_slots.ensures i)) (same i))))

pub returns-clause-ok : goal.returns-clause-ok
returns-clause-ok c =
    let kind = c.args.kind in
    let ranges = c.args.ranges.now in
    let items = c.in_ok-items.items in
    let ends = c.in_ok-ends.ends in
    let parents = c.in_ok-parents.parents in
    let rows = c.in_ok-rows.rows in
    let ends_is : ends.items ≡ ends_from 0 (cut (leaf_size (slots_of (kind_width kind) Leaf)) items.items) = c.in_ok-ends.ensures ∙ (λ i. ends_from 0 (cut (leaf_size (c.leaf_slots.ensures i)) (c.deref.ensures.value i))) in
    let count : c.len-count.result ≡ length ends.items = c.len-count.ensures ∙ ends.ok.0 in
    let seen : length c.deref-3.result.now ≡ length ends.items = ap length c.deref-3.ensures.value in
    leaf_facts kind ranges items.items ends.items parents.items rows c.requires c.in_ok-items.ensures.good c.in_ok-items.ensures.items ends_is
    (λ above long. c.in_ok-parents.ensures above (long ∙ sym count) ∙ ap (λ (n : ℕ). parents_over kind (first_row + n) above) count)
    (λ left low. c.in_ok-rows.ensures.ok left (omega (arith, low, seen)) ∙ ap (λ (n : ℕ). rows_up (kind_width kind) (finds_room kind) left n) seen)
    c.in_ok-rows.ensures.few

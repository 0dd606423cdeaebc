use Rattle.mt_shelves.proofs.Prelude.{◌≡◌, ◌<◌, length, get_or, ap, sym, ◌∙◌, arith, eqb-false, eqb-true, joined}
use Rattle.mt_shelves.proofs.Editing.{all_filled, none_removed}
use Rattle.mt_shelves.proofs.edits.tidy.Goals as goal

pub returns-then-is_empty-clause-joined : goal.returns-then-is_empty-clause-joined
returns-then-is_empty-clause-joined c =
    let same : c.ranges-2.result.now ≡ get_or c.args.shelves.now.items c.args.at c.index.result.now = c.ranges-2.ensures.ranges ∙ c.index.ensures in
    let none : length (get_or c.args.shelves.now.items c.args.at c.index.result.now) ≡ 0 = ap length (sym same) ∙ eqb-true (length c.ranges-2.result.now) 0 (sym c.is_empty.ensures ∙ c.if-is_empty.true) in
    ap joined c.remove.ensures.items ∙ none_removed c.args.shelves.now.items c.args.at c.index.result.now c.requires.within none

pub cut_up-requires-clause-filled : goal.cut_up-requires-clause-filled
cut_up-requires-clause-filled c =
    let same : c.ranges-2.result.now ≡ get_or c.args.shelves.now.items c.args.at c.index.result.now = c.ranges-2.ensures.ranges ∙ c.index.ensures in
    let other : length c.ranges-2.result.now ≡ 0 → ⊥ = eqb-false (length c.ranges-2.result.now) 0 (sym c.is_empty.ensures ∙ c.if-is_empty.false) in
    let some : 0 < length (get_or c.args.shelves.now.items c.args.at c.index.result.now) = omega (arith, other, ap length same) in
    all_filled c.args.shelves.now.items c.args.at c.index.result.now c.requires.within c.requires.front some c.requires.back

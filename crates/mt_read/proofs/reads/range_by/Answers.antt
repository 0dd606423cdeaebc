use Rattle.mt_read.proofs.Prelude.{arith, ◌≡◌, ◌≤◌, ◌∙◌, Option, ap, length, subst, sym, Range, kind_width, Load, PassPart, here, identity_of, part_of, Answers}
use Rattle.mt_read.proofs.Descending.{goes_on, goes_sees}
use Rattle.mt_read.proofs.Reading.{loads, answers_from}
use Rattle.mt_read.proofs.Upward.{lesser_is, loads_sought, sought_within}
use Rattle.mt_read.proofs.reads.range_by.Goals as goal

pub walk_by-requires-clause-index : goal.walk_by-requires-clause-index
walk_by-requires-clause-index g c =
    let kind = (identity_of c.args.table.now).shape.kind in
    sought_within (identity_of c.args.table.now) c.args.pass.now c.args.index c.min-to.result c.requires.pass
    (lesser_is kind c.args.index c.top.result c.min-to.result c.width_with-width.result (c.width_with-width.ensures (kind_width kind) c.requires.columns) c.top.ensures c.min-to.ensures)

pub returns-clause-answer : goal.returns-clause-answer
returns-clause-answer g c =
    let t = identity_of c.args.table.now in
    let q = part_of c.args.pass.now in let q₂ = part_of c.find_slot-place.new.pass in let q₃ = part_of c.range_at-range.new.pass in
    let same = c.find_slot-place.ensures.sees.is in
    let level : (here q₂).extent.level ≡ 0 = ap (λ (z : PassPart). (here z).extent.level) same ∙ c.in_ok-found.ensures.leaf.level in
    let since = ap (λ (z : PassPart). (here z).since) same in
    let least : length q.seen ≤ (here (part_of c.walk_by.new.pass)).since = c.in_ok-found.ensures.since in
    let found = answers_from q₃ (here q₂).since (length q.seen) (Load c.min-to.result) c.range_at-range.result (omega arith)
    (loads q₂ q₃ c.find_slot-place.result c.range_at-range.result level c.range_at-range.ensures.read c.min-to.result c.find_slot-place.ensures.from c.find_slot-place.ensures.to) in
    subst (λ (v : Option Range). Answers q₃ (length q.seen) (Load c.args.index) v) (sym c.not_below.ensures)
    (loads_sought t c.range_at-range.new.pass c.args.pass.now c.range_at-range.ensures.stepped.of c.requires.pass (length q.seen) c.args.index c.min-to.result (lesser_is t.shape.kind c.args.index c.top.result c.min-to.result c.width_with-width.result (c.width_with-width.ensures (kind_width t.shape.kind) c.requires.columns) c.top.ensures c.min-to.ensures) c.range_at-range.result found)

pub returns-clause-goes : goal.returns-clause-goes
returns-clause-goes g c = goes_on _ _ _ c.walk_by.ensures.goes (goes_on _ _ _ (goes_sees _ _ c.find_slot-place.ensures.sees) c.range_at-range.ensures.goes)

use Rattle.mt_read.proofs.Prelude.{arith, ◌≤◌, length, subst, Kind, Load, greatest_of, kind_width, here, identity_of, part_of, not_below, range_or_hole}
use Rattle.mt_read.proofs.Descending.{goes_on}
use Rattle.mt_read.proofs.Reading.{loads, answers_from}
use Rattle.mt_read.proofs.Spots.{entry_is}
use Rattle.mt_read.proofs.Upward.{kind_is, lesser_is, loads_sought, sought_within}
use Rattle.mt_read.proofs.entries.entry_by.Goals as goal

pub walk_by-requires-clause-index : goal.walk_by-requires-clause-index
walk_by-requires-clause-index g c =
    let kind = (identity_of c.args.table.now).shape.kind in
    sought_within (identity_of c.args.table.now) c.args.pass.now c.args.index c.min-to.result c.requires.pass
    (lesser_is kind c.args.index c.top.result c.min-to.result c.width_with.result (c.width_with.ensures (kind_width kind) c.requires.columns) c.top.ensures c.min-to.ensures)

pub returns-clause-goes : goal.returns-clause-goes
returns-clause-goes g c = goes_on _ _ _ c.walk_by.ensures.goes c.entry_in-entry.ensures.goes

pub returns-clause-answer : goal.returns-clause-answer
returns-clause-answer g c =
    let t = identity_of c.args.table.now in
    let q = part_of c.args.pass.now in let q₁ = part_of c.walk_by.new.pass in let q₂ = part_of c.entry_in-entry.new.pass in
    let kind = t.shape.kind in
    let to_is = lesser_is kind c.args.index c.top.result c.min-to.result c.width_with.result (c.width_with.ensures (kind_width kind) c.requires.columns) c.top.ensures c.min-to.ensures in
    let read = c.entry_in-entry.ensures.read in
    let range = range_or_hole read.place c.entry_in-entry.result in
    let least : length q.seen ≤ (here q₁).since = c.in_ok-leaf.ensures.since in
    let found = answers_from q₂ (here q₁).since (length q.seen) (Load c.min-to.result) range (omega arith)
    (loads q₁ q₂ read.place range c.in_ok-leaf.ensures.leaf.level read.read c.min-to.result read.from read.to) in
    let within : read.place.last ≤ greatest_of kind = subst (λ (k : Kind). read.place.last ≤ greatest_of k) (kind_is t c.walk_by.new.pass c.walk_by.ensures.stepped.of) read.within in (
      not_below c.args.index c.args.index range,
      loads_sought t c.entry_in-entry.new.pass c.args.pass.now c.entry_in-entry.ensures.stepped.of c.requires.pass (length q.seen) c.args.index c.min-to.result to_is range found,
      entry_is read.place c.entry_in-entry.result c.args.index c.min-to.result (greatest_of kind) c.entry_or_none.result to_is within read.to c.entry_or_none.ensures.none c.entry_or_none.ensures.above c.entry_or_none.ensures.some,
    )

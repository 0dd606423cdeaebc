use Rattle.mt_bulk.proofs.Prelude.{length, sym, ◌∙◌, eqb-true}
use Rattle.mt_bulk.proofs.Finished.{none_refused}
use Rattle.mt_bulk.proofs.building.build_alone.Goals as goal

pub returns-then-is_empty-clause-taken : goal.returns-then-is_empty-clause-taken
returns-then-is_empty-clause-taken c = none_refused c.args.kind c.args.ranges.now (eqb-true (length c.args.ranges.now) 0 (sym c.is_empty.ensures ∙ c.if-is_empty.true))

use Rattle.mt_bulk.proofs.Prelude.{length, sym, ap, ◌∙◌, arith, eqb-true}
use Rattle.mt_bulk.proofs.Finished.{none_refused}
use Rattle.mt_bulk.proofs.building.build.Goals as goal

pub returns-then-is_empty-clause-taken : goal.returns-then-is_empty-clause-taken
returns-then-is_empty-clause-taken g c = none_refused c.args.kind c.args.ranges.now (eqb-true (length c.args.ranges.now) 0 (sym c.is_empty.ensures ∙ c.if-is_empty.true))

pub returns-clause-turns : goal.returns-clause-turns
returns-clause-turns g c = λ some worker turn within two.
    c.fill_at_once-words.ensures.turns worker turn (omega (arith, within, ap length c.as_mut_slice.ensures.value, c.in_ok-lanes.ensures.count)) two

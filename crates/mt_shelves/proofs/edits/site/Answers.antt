use Rattle.mt_shelves.proofs.Prelude.{◌-◌, arith}
use Rattle.mt_shelves.proofs.Editing.{fewer_above, fewer_below}
use Rattle.mt_shelves.proofs.edits.site.Goals as goal

pub returns-then-start-gt0-clause-front : goal.returns-then-start-gt0-clause-front
returns-then-start-gt0-clause-front c = fewer_below c.args.shelves.now c.args.first (c.place_below-start.result - 1) c.place_below-start.result c.place_below-start.ensures.front (omega arith)

pub returns-clause-back : goal.returns-clause-back
returns-clause-back c =
    fewer_above c.args.shelves.now c.args.last c.place_above-end.result c.min.result c.place_above-end.ensures.back (omega (arith, c.if-start-end.false, c.if-start-gt0.false))

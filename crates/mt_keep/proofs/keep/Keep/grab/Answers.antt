use Rattle.mt_keep.proofs.Prelude.{rules, eqb-true}
use Rattle.mt_keep.proofs.Taking.{grabs_value, has_grabbed}
use Rattle.mt_keep.proofs.keep.Keep.grab.Goals as goal

pub swap-requires : goal.swap-requires
swap-requires g c = (search rules, search rules, grabs_value g.C.Placed.fits c.args.self.now.table.shared.key _ c.args.seat.now.id c.args.seat.now.me c.requires.idle)

pub returns-clause-away : goal.returns-clause-away
returns-clause-away g c = λ is.
    has_grabbed g.C.Placed.fits c.args.self.now.table.shared.key c.args.seat.now.me c.swap.new.seat.me c.requires.idle (c.swap.ensures.2.free (eqb-true c.swap.result 0 is))

use Rattle.mt_rule.proofs.Prelude.{rules, eqb-true}
use Rattle.mt_rule.proofs.Turning.{grabs_value, has_grabbed}
use Rattle.mt_rule.proofs.turn.Turn.grab.Goals as goal

pub swap-requires : goal.swap-requires
swap-requires g c = (search rules, search rules, grabs_value g.C.OfTable.table c.args.self.now.table.shared.key _ c.args.seat.now.id c.args.seat.now.me c.requires.idle c.requires.bare)

pub returns-clause-away : goal.returns-clause-away
returns-clause-away g c = λ is.
    has_grabbed g.C.OfTable.table c.args.self.now.table.shared.key c.args.seat.now.me c.swap.new.seat.me c.requires.of c.requires.bare (c.swap.ensures.2.free (eqb-true c.swap.result 0 is))

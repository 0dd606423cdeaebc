use Rattle.mt_rule.proofs.Prelude.{rules}
use Rattle.mt_rule.proofs.Turning.{releases_value}
use Rattle.mt_rule.proofs.turn.Turn.given.Goals as goal

pub store-requires : goal.store-requires
store-requires g c = (search rules, search rules, releases_value g.C.OfTable.table c.args.self.now.table.shared.key _ c.exchange-empty.new.seat.id c.exchange-empty.new.seat.me c.args.taken.value (search rules) c.requires.value)

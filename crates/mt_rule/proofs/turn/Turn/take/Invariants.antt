use Rattle.mt_rule.proofs.Prelude.{◌≡◌, [], false}
use Rattle.mt_rule.proofs.turn.Turn.take.Given as goal

abbrev pub invariant-loop : goal.invariant-loop
invariant-loop g l = (l.seat.table_id ≡ l.fn.self.table.shared.table_id) × (l.seat.me.0.of ≡ l.fn.self.table.shared.key) × (l.seat.me.0.holds ≡ false) × (l.seat.me.1 ≡ [])

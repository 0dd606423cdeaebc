use Rattle.mt_rule.proofs.Prelude.{◌≡◌, [], length, map, take, All, AllByRecursion, IsPassOf, pass_in, seated, served, IsSeatedAt}
use Rattle.mt_rule.proofs.turn.Turn.seat_all.Given as goal

abbrev pub invariant-loop-i : goal.invariant-loop-i
invariant-loop-i g l =
    (l.first.table_id ≡ l.fn.self.table.shared.table_id) × (l.first.me.0 ≡ seated l.fn.self.table.shared.key l.first.me.0.tries) × (l.first.me.1 ≡ [])
    × (length l.passes ≡ length l.fn.passes) × (l.i-end ≡ length l.fn.passes)
    × (map pass_in l.passes ≡ map pass_in l.fn.passes) × All (IsPassOf (served l.fn.self.table.shared.key)) l.passes
    × AllByRecursion (IsSeatedAt l.fn.self.table.shared.table_id l.fn.self.table.shared.key) (take l.i l.passes)

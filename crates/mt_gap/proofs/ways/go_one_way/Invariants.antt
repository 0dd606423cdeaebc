use Rattle.mt_gap.proofs.Prelude.{ℕ, GoesOneWay, IsOneWay}
use Rattle.mt_gap.proofs.OneWay.{GoesOn}
use Rattle.mt_gap.proofs.ways.go_one_way.Given as goal

abbrev pub invariant-loop : goal.invariant-loop
invariant-loop g l =
    let s = g.R.Rows.sheet l.fn.rows in
    record {
      goes : GoesOn l.side s (g.R.Rows.sheet l.rows) l.window l.counter l.path.items l.at;
      one : IsOneWay l.side l.window s.tree → (levels : ℕ) × GoesOneWay l.side l.window s.tree.table levels l.at;
    }

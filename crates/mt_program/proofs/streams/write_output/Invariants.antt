use Rattle.mt_program.proofs.Prelude.{◌≡◌, length}
use Rattle.mt_program.proofs.Pieces.{HasAppended}
use Rattle.mt_program.proofs.streams.write_output.Given as goal

-- what goes before the rest was appended, and no call of the sink failed
abbrev pub invariant-loop-rest : goal.invariant-loop-rest
invariant-loop-rest g l = HasAppended (g.O.Sink.written l.initial.out) (g.O.Sink.written l.out) l.bytes l.rest
    × (g.O.Sink.faults l.out ≡ g.O.Sink.faults l.initial.out)
    × (g.O.Sink.faults l.initial.out ≡ 0 → g.O.Sink.late l.initial.out ≡ 0 → g.O.Sink.late l.out ≡ 0)

abbrev pub decreases-loop-rest : goal.decreases-loop-rest
decreases-loop-rest g l = length l.rest

use Rattle.mt_program.proofs.Prelude.{◌≡◌, ◌≤◌, length, Consumes}
use Rattle.mt_program.proofs.streams.read_input.Given as goal

-- each turn read at least one byte, and no call of the source failed
abbrev pub invariant-loop-turn : goal.invariant-loop-turn
invariant-loop-turn g l = (l._turn ≤ length l.bytes.items) × (length l.bytes.items ≤ l.limit)
    × Consumes (g.S.Source.left l.initial.src) (g.S.Source.left l.src) l.bytes.items
    × (g.S.Source.faults l.src ≡ g.S.Source.faults l.initial.src)
    × (g.S.Source.faults l.initial.src ≡ 0 → g.S.Source.late l.initial.src ≡ 0 → g.S.Source.late l.src ≡ 0)

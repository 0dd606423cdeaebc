use Rattle.mt_program.proofs.Prelude.{◌∙◌, arith, common_steps}
use Rattle.mt_program.proofs.Pieces.{read_more, read_too_many, read_within, reads_no_further, fault_fails}
use Rattle.mt_program.proofs.streams.read_input.Goals as goal

pub returns-in_err-count-clause-fails : goal.returns-in_err-count-clause-fails
returns-in_err-count-clause-fails g c =
    let (_, within, taken, quiet, _) = c.loop-turn.invariant in
    let failed = c.in_err-count.ensures in
    fault_fails _ _ _ _ _ _ c.from_residual-in_err-count.ensures.1 (read_within _ _ _ _ _ taken failed.bytes within) (rw quiet at failed.cause.failed)

pub loop-turn-preserved : goal.loop-turn-preserved
loop-turn-preserved g c =
    let (_, _, taken, quiet, in_time) = c.loop-turn.invariant in
    let read = c.in_ok-count.ensures in (
      grind (arith, common_steps),
      grind (arith, common_steps),
      read_more _ _ _ _ _ _ taken read.bytes.0 (grind (arith, common_steps)),
      read.cause.ok ∙ quiet,
      λ no_fault none_late. read.late.in_time (quiet ∙ no_fault) ∙ in_time no_fault none_late,
    )

-- what was read last was not kept
pub returns-in_err-extend_from_slice-clause-reach : goal.returns-in_err-extend_from_slice-clause-reach
returns-in_err-extend_from_slice-clause-reach g c =
    let (_, within, taken, _, _) = c.loop-turn.invariant in
    reads_no_further _ _ _ _ _ _ taken c.in_ok-count.ensures.bytes.0 (grind (arith, common_steps))

pub returns-then-len-limit-clause-reach : goal.returns-then-len-limit-clause-reach
returns-then-len-limit-clause-reach g c =
    let (_, within, taken, _, _) = c.loop-turn.invariant in
    reads_no_further _ _ _ _ _ _ taken c.in_ok-count.ensures.bytes.0 (grind (arith, common_steps))

-- one byte more was read and kept
pub returns-then-len-limit-clause-fails : goal.returns-then-len-limit-clause-fails
returns-then-len-limit-clause-fails g c =
    let (_, within, taken, quiet, _) = c.loop-turn.invariant in
    let read = c.in_ok-count.ensures in (
      read_too_many c.args.limit _ _ c.extend_from_slice.new.self.items (read_more _ _ _ _ _ _ taken read.bytes.0 (grind (arith, common_steps))) (grind (arith, common_steps)),
      read.cause.ok ∙ quiet,
    )

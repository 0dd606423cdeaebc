use Rattle.mt_program.proofs.program.output_of.Goals as goal

pub returns-in-Verify-clause-fails : goal.returns-in-Verify-clause-fails
returns-in-Verify-clause-fails g c =
    let fails = rw c.deref.ensures.value at c.verified.ensures.fails in
    rw c.in-Verify.is fails

pub returns-in-Bulk-clause-turns : goal.returns-in-Bulk-clause-turns
returns-in-Bulk-clause-turns g c =
    let turns = rw c.deref-in-Bulk.ensures.value at c.built.ensures.turns in
    rw c.in-Bulk.is turns

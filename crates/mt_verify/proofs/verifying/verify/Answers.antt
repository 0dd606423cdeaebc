use Rattle.mt_verify.proofs.Prelude.{Option, length, ap, subst, arith, IfNone, log_follows, are_readable, Account, TellsNone}
use Rattle.mt_verify.proofs.CopiedTrees.{copies_are_earlier}
use Rattle.mt_verify.proofs.FoundVerdict.{no_steps}
use Rattle.mt_verify.proofs.SmallRuns.{run_small}
use Rattle.mt_verify.proofs.verifying.verify.Goals as goal

pub read_told-requires : goal.read_told-requires
read_told-requires c = are_readable c.args.log.now.lines (log_follows c.args.log.now c.requires.log).1

pub returns-in_default : goal.returns-in_default
returns-in_default c =
    let readable = are_readable c.args.log.now.lines (log_follows c.args.log.now c.requires.log).1 in
    no_steps c.args.log.now c.args.rows c.args.text.now
    (λ t steps trees run. run_small c.args.log.now c.args.rows t steps trees c.requires.log (omega (arith, ap length c.as_slice.ensures, c.if-as_slice-ge-MOST_LINES.false)) run (copies_are_earlier c.args.log.now.lines readable))
    (subst (λ (o : Option Account). IfNone o (TellsNone c.args.log.now c.args.text.now)) c.in_default.is c.in_ok-account.ensures.none)

pub judge-requires-clause-log : goal.judge-requires-clause-log
judge-requires-clause-log c = are_readable c.args.log.now.lines (log_follows c.args.log.now c.requires.log).1

pub judge-requires-clause-small : goal.judge-requires-clause-small
judge-requires-clause-small c t steps trees run =
    let readable = are_readable c.args.log.now.lines (log_follows c.args.log.now c.requires.log).1 in
    run_small c.args.log.now c.args.rows t steps trees c.requires.log (omega (arith, ap length c.as_slice.ensures, c.if-as_slice-ge-MOST_LINES.false)) run (copies_are_earlier c.args.log.now.lines readable)

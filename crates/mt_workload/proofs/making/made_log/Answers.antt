use Rattle.mt_workload.proofs.Prelude.{inl, refl, is_log}
use Rattle.mt_workload.proofs.MadeLogs.{made_follows, made_is_readable}
use Rattle.mt_workload.proofs.making.made_log.Goals as goal

pub returns-clause-log : goal.returns-clause-log
returns-clause-log c = is_log _ (inl refl) (rw c.in_ok-lines.ensures (made_follows c.args.number c.args.steps c.args.lanes c.requires.steps c.requires.lanes c.requires.few_lanes))

pub returns-clause-readable : goal.returns-clause-readable
returns-clause-readable c = rw c.in_ok-lines.ensures (made_is_readable c.args.number c.args.steps c.args.lanes c.requires.steps c.requires.lanes c.requires.few_lanes)

use Rattle.mt_rule.proofs.Prelude.{LoadedCommits, commits_at, part_of}
use Rattle.mt_rule.proofs.ReadingSteps.{may_load, commits}
use Rattle.mt_rule.proofs.table.MtTable.load_commits.Goals as goal

pub load_as-requires-clause-may : goal.load_as-requires-clause-may
load_as-requires-clause-may g c = let q = part_of c.args.pass.now in may_load (λ word. LoadedCommits) c.args.self.now.table.shared.key commits_at q (commits q)

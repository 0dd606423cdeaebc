use Rattle.mt_rule.proofs.Prelude.{LoadedCommits}
use Rattle.mt_rule.proofs.table.MtTable.load_commits.Given as goal

abbrev pub ghosts-load_as : goal.ghosts-load_as
ghosts-load_as g a = record { tells = λ word. LoadedCommits }

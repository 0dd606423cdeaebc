use Rattle.mt_rule.proofs.Prelude.{LoadedRoot}
use Rattle.mt_rule.proofs.table.MtTable.load_root.Given as goal

abbrev pub ghosts-load_as : goal.ghosts-load_as
ghosts-load_as g a = record { tells = λ word. LoadedRoot }

use Rattle.mt_rule.proofs.Prelude.{LoadedBegun}
use Rattle.mt_rule.proofs.table.MtTable.load_begun.Given as goal

abbrev pub ghosts-load_as : goal.ghosts-load_as
ghosts-load_as g a = record { tells = λ word. LoadedBegun }

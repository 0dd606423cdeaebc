use Rattle.mt_rule.proofs.Prelude.{LoadedPivot}
use Rattle.mt_rule.proofs.table.MtTable.load_pivot.Given as goal

abbrev pub ghosts-load_as : goal.ghosts-load_as
ghosts-load_as g a = record { tells = LoadedPivot }

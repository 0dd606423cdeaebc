use Rattle.mt_rule.proofs.Prelude.{LoadedSlot}
use Rattle.mt_rule.proofs.table.MtTable.load_slot.Given as goal

abbrev pub ghosts-load_as : goal.ghosts-load_as
ghosts-load_as g a = record { tells = LoadedSlot }

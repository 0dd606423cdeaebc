use Rattle.mt_bulk.proofs.levels.+count_rows.Given as goal

abbrev pub decreases-count_rows : goal.decreases-count_rows
decreases-count_rows l = l.level

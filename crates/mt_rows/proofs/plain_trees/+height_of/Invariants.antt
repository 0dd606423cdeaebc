use Rattle.mt_rows.proofs.plain_trees.+height_of.Given as goal

abbrev pub decreases-height_of : goal.decreases-height_of
decreases-height_of l = l.depth

use Rattle.mt_splice.proofs.burying.+bury.Given as goal

abbrev pub decreases-bury : goal.decreases-bury
decreases-bury g l = l.depth

use Rattle.trials_engine.proofs.tests.replaced.+longest_hole.Given as goal

abbrev pub decreases-longest_hole : goal.decreases-longest_hole
decreases-longest_hole l = l.depth

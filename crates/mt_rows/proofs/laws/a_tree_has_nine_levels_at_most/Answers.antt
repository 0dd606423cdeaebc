use Rattle.mt_rows.proofs.NineLevels.{nine_levels, few_slots_passed}
use Rattle.mt_rows.proofs.laws.a_tree_has_nine_levels_at_most.Goals as goal

pub returns-clause-levels : goal.returns-clause-levels
returns-clause-levels c = nine_levels

pub returns-clause-slots : goal.returns-clause-slots
returns-clause-slots c = few_slots_passed

use Rattle.mt_linearize.proofs.Answered.{made_is_next, limits_next}
use Rattle.mt_linearize.proofs.one_thread.a_call_is_the_next_of_its_tree.Goals as goal

pub returns-clause-next : goal.returns-clause-next
returns-clause-next c = made_is_next

pub returns-clause-limits : goal.returns-clause-limits
returns-clause-limits c = limits_next

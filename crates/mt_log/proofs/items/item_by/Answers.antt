use Rattle.mt_log.proofs.Prelude.{rules, item_by}
use Rattle.mt_log.proofs.items.item_by.Goals as goal

pub returns-in_ok-area-in-Ralloc-clause-item : goal.returns-in_ok-area-in-Ralloc-clause-item
unfolding item_by
returns-in_ok-area-in-Ralloc-clause-item c = search rules

use Rattle.mt_layout.proofs.OwnColumns.{same_items}
use Rattle.mt_layout.proofs.laws.items_are_in_own_columns.Goals as goal

pub returns : goal.returns
returns c = same_items

use Rattle.mt_rows.proofs.SlotEntry.{replaces_entry}
use Rattle.mt_rows.proofs.laws.one_store_replaces_an_entry.Goals as goal

pub returns : goal.returns
returns c = replaces_entry

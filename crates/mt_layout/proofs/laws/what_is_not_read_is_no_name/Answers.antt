use Rattle.mt_layout.proofs.NameLaws.{named_row-no_name, named_kind-no_name}
use Rattle.mt_layout.proofs.laws.what_is_not_read_is_no_name.Goals as goal

pub returns : goal.returns
returns c = record { row = named_row-no_name; kind = named_kind-no_name }

use Rattle.mt_layout.proofs.NameLaws.{Names-named_row, Names-named_kind}
use Rattle.mt_layout.proofs.laws.what_is_read_is_a_name.Goals as goal

pub returns : goal.returns
returns c = record { row = Names-named_row; kind = Names-named_kind }

use Rattle.mt_layout.proofs.NameLaws.{named_row-name_at, named_kind-name_at}
use Rattle.mt_layout.proofs.laws.names_are_read_back.Goals as goal

pub returns : goal.returns
returns c = record { row = named_row-name_at; kind = named_kind-name_at }

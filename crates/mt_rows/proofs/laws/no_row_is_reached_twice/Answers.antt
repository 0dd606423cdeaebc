use Rattle.mt_rows.proofs.Once.{once, once_in}
use Rattle.mt_rows.proofs.laws.no_row_is_reached_twice.Goals as goal

pub returns : goal.returns
returns c = record { levels = once; depth = once_in }

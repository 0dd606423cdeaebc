-- New passes have made no calls.
use Rattle.mt_numbers.proofs.Prelude.{range_with_len, pass_in}
use Rattle.mt_numbers.proofs.Counting.{new_passes}
use Rattle.mt_numbers.proofs.shared.make.Goals as goal

pub returns-in-Ok-clause-own : goal.returns-in-Ok-clause-own
returns-in-Ok-clause-own c = new_passes pass_in c.in-Ok.made.1.items (range_with_len 0 c.args.passes) c.in-Ok.ensures.new.passes

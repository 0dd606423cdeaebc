-- What the call was answered tells what was taken.
use Rattle.mt_numbers.proofs.Prelude.{rules, pass_in}
use Rattle.mt_numbers.proofs.Counting.{took}
use Rattle.mt_numbers.proofs.shared.CallerNumbers.take.Goals as goal

pub returns : goal.returns
returns g c =
    let told = took c.args.self.now.tree.now (pass_in c.args.self.now.pass) (pass_in c.alloc_range-answer.new.pass) c.alloc_range-answer.result c.started.result (search rules) (search rules) c.alloc_range-answer.ensures.made.done c.alloc_range-answer.ensures.made.worn c.started.ensures in
    record { number = told.0; taken = told.1; given_back = told.2 }

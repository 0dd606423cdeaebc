-- What the call was answered tells what was given back.
use Rattle.mt_numbers.proofs.Prelude.{rules, pass_in}
use Rattle.mt_numbers.proofs.Counting.{gave}
use Rattle.mt_numbers.proofs.shared.CallerNumbers.give_back.Goals as goal

pub returns : goal.returns
returns g c =
    let told = gave c.args.self.now.tree.now (pass_in c.args.self.now.pass) (pass_in c.erase-answer.new.pass) c.args.number c.erase-answer.result c.removed.result (search rules) c.erase-answer.ensures.made.done c.erase-answer.ensures.made.worn c.removed.ensures in
    record { number = told.0; taken = told.1; given_back = told.2 }

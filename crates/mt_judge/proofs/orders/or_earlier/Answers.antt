use Rattle.mt_judge.proofs.Prelude.{◌≡◌, false, Option, IfSome, subst, is_of_order, FoundFault}
use Rattle.mt_judge.proofs.Firsts.{told_earlier}
use Rattle.mt_judge.proofs.orders.or_earlier.Goals as goal

pub returns-in-Some : goal.returns-in-Some
returns-in-Some c =
    let other = subst (λ (o : Option FoundFault). IfSome o (λ fault. is_of_order fault.cause ≡ false)) c.in-Some.is c.requires.other in
    rw c.or_earlier.ensures (told_earlier c.args.told.now c.args.found c.in-Some.fault c.requires.order other)

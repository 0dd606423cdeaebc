use Rattle.mt_c.proofs.Prelude.{Some, subst, sym, All-pop, Tree, IsPassOf, Pass, IsSparePass}
use Rattle.mt_c.proofs.user_opens.first.Goals as goal

pub shared-requires : goal.shared-requires
shared-requires c = (All-pop (IsSparePass c.args.tree) c.args.passes.items c.pop.new.self.items c.pop.result c.pop.ensures.items c.requires.passes).0

pub invariant_of-result : goal.invariant_of-result
invariant_of-result c =
    let last : IsSparePass c.args.tree c.in-Some.pass = (All-pop (IsSparePass c.args.tree) c.args.passes.items c.pop.new.self.items (Some c.in-Some.pass) c.in-Some.ensures.items c.requires.passes).1 in record {
      of = subst (λ (x : Tree × Pass). IsPassOf x.0 x.1) (λ i. (sym c.in_ok-common.ensures.tree i, sym c.new.ensures.pass i)) last.of;
      seated = c.in_ok-common.ensures.seated;
    }

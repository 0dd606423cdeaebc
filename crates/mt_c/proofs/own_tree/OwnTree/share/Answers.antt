use Rattle.mt_c.proofs.Prelude.{ap, Kind, OwnTree, shape_for}
use Rattle.mt_c.proofs.SharedMaps.{first_told}
use Rattle.mt_c.proofs.RangeCounts.{own_if_asked}
use Rattle.mt_c.proofs.own_tree.OwnTree.share.Goals as goal

pub returns-clause-user : goal.returns-clause-user
returns-clause-user c =
    first_told c.self.inside.engine c.args.self.now.engine _ c.args.rows c.args.passes c.args.calls c.first_in.result (λ whole. whole.value) (ap (λ (k : Kind). shape_for k c.args.rows c.args.passes c.args.calls) c.self.invariant.told)
    (ap (λ (t : OwnTree). t.engine) c.self.view_is) c.first_in.ensures.user

pub invariant_of-self : goal.invariant_of-self
invariant_of-self c = own_if_asked c.self.inside c.first_in.new.engine c.self.invariant c.first_in.ensures.rest

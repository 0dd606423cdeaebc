use Rattle.mt_splice.proofs.ClearOpens.{clear_noted}
use Rattle.mt_splice.proofs.FirstLeaf.{leaf_may_be_root}
use Rattle.mt_splice.proofs.Openings.{climb_begins}
use Rattle.mt_splice.proofs.plans.a_climb_begins.Goals as goal

pub returns : goal.returns
returns c = record {
  store = λ b start kind s book left right items number call reply c begun may whole. climb_begins begun may whole;
  first = λ b start s s' book book' above items call reply made made' inner head gap first whole. leaf_may_be_root first whole gap;
  clear = λ b start kind s s₁ s₂ book number call reply width index depth c top begun may whole. clear_noted begun may whole depth;
}

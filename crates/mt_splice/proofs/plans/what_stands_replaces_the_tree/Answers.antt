use Rattle.mt_splice.proofs.Endings.{replaced_in_slot, replaced_at_root, replaced_above}
use Rattle.mt_splice.proofs.plans.what_stands_replaces_the_tree.Goals as goal

pub returns : goal.returns
returns c = record {
  slot = λ start words taken gone. replaced_in_slot;
  root = λ start words taken gone low_gone d h. replaced_at_root;
  above = λ start words taken gone low_taken new. replaced_above;
}

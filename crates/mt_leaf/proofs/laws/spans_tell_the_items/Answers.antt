use Rattle.mt_leaf.proofs.Prelude.{same_items, spans_from-append}
use Rattle.mt_leaf.proofs.laws.spans_tell_the_items.Goals as goal

pub returns : goal.returns
returns c = record { same = same_items; append = spans_from-append }

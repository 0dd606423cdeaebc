use Rattle.mt_leaf.proofs.Prelude.{stored}
use Rattle.mt_leaf.proofs.Joined.{apart_joined}
use Rattle.mt_leaf.proofs.Stored.{ranges_edited, fills_edited, length_edited}
use Rattle.mt_leaf.proofs.laws.an_edit_is_a_store.Goals as goal

pub returns : goal.returns
returns c = record {
  ranges = ranges_edited;
  fills = fills_edited;
  apart = λ xs first last entry. apart_joined (stored xs first last entry);
  count = length_edited;
}

use Rattle.mt_life.proofs.Prelude.{one_of_get, spans_at}
use Rattle.mt_life.proofs.Holding.{root_held, child_held, leaf_held, renewed_held, marked_held, unmarked_held}
use Rattle.mt_life.proofs.laws.held_rows_tell.Goals as goal

pub returns : goal.returns
returns c = record {
  root = root_held;
  child = λ kind s e m x level i y known h inner at. child_held kind s e m known x level y h inner (one_of_get (spans_at kind s.tree.table x.row x.extent) i y at);
  leaf = λ kind s e m x known. leaf_held kind s e m known x;
  renewed = λ kind s e m x known. renewed_held kind s e m known x;
  marked = λ kind s e m x known. marked_held kind s e m known x;
  unmarked = λ kind s e m x known. unmarked_held kind s e m known x;
}

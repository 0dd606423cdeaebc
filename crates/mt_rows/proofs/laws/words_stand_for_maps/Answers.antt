use Rattle.mt_rows.proofs.Ranges.{empty_map, tree_map}
use Rattle.mt_rows.proofs.laws.words_stand_for_maps.Goals as goal

pub returns : goal.returns
returns c = record { empty = empty_map; tree = λ kind t h stands wide. tree_map t h stands kind wide }

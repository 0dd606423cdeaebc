use Rattle.mt_rows.proofs.FewRows.{few_rows, row_on_each_level, many_ranges}
use Rattle.mt_rows.proofs.laws.a_tree_has_few_rows.Goals as goal

pub returns : goal.returns
returns c = record { rows = few_rows; levels = row_on_each_level; tall = many_ranges }

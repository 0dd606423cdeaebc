use Rattle.mt_rows.proofs.Prelude.{◌-◌, slots_of}
use Rattle.mt_rows.proofs.plain_trees.+push_spans.Given as goal

abbrev pub decreases-push_spans : goal.decreases-push_spans
decreases-push_spans l = slots_of l.width l.row.kind - l.i

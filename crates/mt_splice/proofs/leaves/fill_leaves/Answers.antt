use Rattle.mt_splice.proofs.Prelude.{sym, ◌∙◌}
use Rattle.mt_splice.proofs.Openings.{some_path}
use Rattle.mt_splice.proofs.leaves.fill_leaves.Goals as goal

pub push_edited-requires-clause-some : goal.push_edited-requires-clause-some
push_edited-requires-clause-some g c = some_path c.args.ways.now.left.items (sym c.is_empty.ensures ∙ c.if-is_empty.false)

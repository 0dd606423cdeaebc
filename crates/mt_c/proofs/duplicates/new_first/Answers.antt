use Rattle.mt_c.proofs.Duplicating.{first_made}
use Rattle.mt_c.proofs.Using.{new_spare}
use Rattle.mt_c.proofs.duplicates.new_first.Goals as goal

pub first-requires-clause-passes : goal.first-requires-clause-passes
first-requires-clause-passes c = new_spare c.args.tree c.args.passes.items _ c.requires.all.of c.requires.passes

pub returns : goal.returns
returns c = first_made c.args.shape _ c.args.tree c.args.passes.items c.first.result c.requires c.first.ensures.tree c.first.ensures.passes c.first.ensures.chair c.first.ensures.walk c.first.ensures.none

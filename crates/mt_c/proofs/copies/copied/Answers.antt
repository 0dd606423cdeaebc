use Rattle.mt_c.proofs.Copying.{boxed_with}
use Rattle.mt_c.proofs.copies.copied.Goals as goal

pub returns-clause-tree : goal.returns-clause-tree
returns-clause-tree c = boxed_with c.args.wanted.now.kind c.args.wanted.now.rows _ c.in_ok-engine.engine c.begun.result c.in_ok-new.field-0.value c.in_ok-engine.ensures.engine c.begun.ensures c.in_ok-new.ensures.ok

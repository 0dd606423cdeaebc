use Rattle.mt_draw.proofs.Prelude.{string_bytes}
use Rattle.mt_draw.proofs.Tables.{drawn_is}
use Rattle.mt_draw.proofs.drawn.Goals as goal

pub returns-clause-drawn : goal.returns-clause-drawn
returns-clause-drawn c = drawn_is c.args.form c.args.bytes.now (string_bytes c.in_ok-text_of.field-0) c.in_ok-tree.tree c.in_ok-tree.ensures.tree c.in_ok-text_of.ensures

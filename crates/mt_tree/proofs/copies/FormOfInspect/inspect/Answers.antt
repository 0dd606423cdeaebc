use Rattle.mt_tree.proofs.Prelude.{ap, ◌∙◌, form_of, tree_as, Sheet}
use Rattle.mt_tree.proofs.Forms.{high_as, reads_through}
use Rattle.mt_tree.proofs.copies.FormOfInspect.inspect.Goals as goal

pub of_height-requires-clause-height : goal.of_height-requires-clause-height
of_height-requires-clause-height g c = high_as _ _ _ c.height-height.result c.parts-rows.ensures.rows c.form_of-form.ensures.rest c.height-height.ensures

pub returns-clause-rest : goal.returns-clause-rest
returns-clause-rest g c = reads_through _ _ _ _ c.parts-rows.ensures.rows c.form_of-form.ensures.rest c.of_height.ensures.sheet

pub returns-clause-finds : goal.returns-clause-finds
returns-clause-finds g c = c.form_of-form.ensures.form ∙ ap (λ (s : Sheet). form_of (tree_as c.args.kind s.tree)) c.parts-rows.ensures.rows

use Rattle.mt_tree.proofs.Prelude.{subst, IfOk-weaker, Kind, IsImageOf, Sheet}
use Rattle.mt_tree.proofs.Forms.{high_as, reads_through}
use Rattle.mt_tree.proofs.images.image_of.Goals as goal

pub of_height-requires-clause-height : goal.of_height-requires-clause-height
of_height-requires-clause-height g c = high_as _ _ _ c.height-height.result c.parts-rows.ensures.rows c.write_image-image.ensures.rest c.height-height.ensures

pub returns-clause-rest : goal.returns-clause-rest
returns-clause-rest g c = reads_through _ _ _ _ c.parts-rows.ensures.rows c.write_image-image.ensures.rest c.of_height.ensures.sheet

pub returns-clause-image : goal.returns-clause-image
returns-clause-image g c =
    IfOk-weaker c.write_image-image.result _ _ (λ bytes image. subst (λ (x : Kind × Sheet). IsImageOf x.0 x.1.tree bytes.items) (λ k. (c.requires k, c.parts-rows.ensures.rows k)) image) c.write_image-image.ensures.image

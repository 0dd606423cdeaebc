use Rattle.mt_c.proofs.Prelude.{sheet_in}
use Rattle.mt_c.proofs.SharedImages.{image_lacks}
use Rattle.mt_c.proofs.shared_images.of_image.Goals as goal

pub returns-clause-lacks : goal.returns-clause-lacks
returns-clause-lacks c =
    image_lacks c.args.bytes.now c.args.rows c.args.passes c.args.calls c.in-Ok.read.0 (sheet_in c.in-Ok.read.1).tree c.in-Ok.ensures.ok c.in-Err-boxed_with.status c.in-Ok.ensures.laws c.in-Err-boxed_with.ensures.lacks

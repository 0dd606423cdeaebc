use Rattle.mt_commands.proofs.Prelude.{sheet_in}
use Rattle.mt_commands.proofs.Building.{bulk_image}
use Rattle.mt_commands.proofs.built.built_image.Goals as goal

pub returns-clause-image : goal.returns-clause-image
returns-clause-image g c =
    bulk_image c.args.kind c.args.ranges.now (sheet_in c.in_ok-rows.rows) c.in_ok-write_image.field-0.items c.in_ok-rows.ensures.built c.in_ok-write_image.ensures.image

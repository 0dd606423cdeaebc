use Rattle.mt_commands.proofs.texts.image_of_run.Goals as goal

pub returns-clause-image : goal.returns-clause-image
returns-clause-image g c = c.play_image.ensures.image

use Rattle.mt_commands.proofs.texts.played.Goals as goal

pub returns-clause-run : goal.returns-clause-run
returns-clause-run g c = c.play.ensures.run

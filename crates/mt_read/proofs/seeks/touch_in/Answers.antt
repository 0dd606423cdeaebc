use Rattle.mt_read.proofs.Prelude.{◌<◌, subst, Width, columns}
use Rattle.mt_read.proofs.Finding.{spot_more, touched_sees}
use Rattle.mt_read.proofs.seeks.touch_in.Goals as goal

pub touch-requires-clause-column : goal.touch-requires-clause-column
touch-requires-clause-column g c = subst (λ (w : Width). c.args.col < columns w) c.requires.on.wide c.requires.column

pub returns-clause-sees : goal.returns-clause-sees
returns-clause-sees g c = touched_sees _ _ c.touch.ensures.part

pub returns-clause-on : goal.returns-clause-on
returns-clause-on g c = spot_more _ _ _ (touched_sees _ _ c.touch.ensures.part) c.requires.on

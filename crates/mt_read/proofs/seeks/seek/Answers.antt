use Rattle.mt_read.proofs.Prelude.{◌≤◌, ◌∙◌, sym, ap, subst, Held, slot_for, PassPart, here, spans_here}
use Rattle.mt_read.proofs.Finding.{sees_on}
use Rattle.mt_read.proofs.Descending.{here_more}
use Rattle.mt_read.proofs.Spots.{seek_few}
use Rattle.mt_read.proofs.seeks.seek.Goals as goal

pub seek_groups-requires-clause-to : goal.seek_groups-requires-clause-to
seek_groups-requires-clause-to g c = subst (λ (x : Held). c.args.index ≤ x.extent.last) (sym (here_more _ _ c.touch_lines.ensures.sees)) c.requires.to

pub returns-clause-sees : goal.returns-clause-sees
returns-clause-sees g c = sees_on _ _ _ c.touch_lines.ensures.sees c.seek_groups.ensures.sees

pub returns-clause-slot : goal.returns-clause-slot
returns-clause-slot g c = c.seek_groups.ensures.slot ∙ ap (λ (q : PassPart). slot_for (spans_here q (here q)) c.args.index) c.touch_lines.ensures.sees.is

pub returns-clause-few : goal.returns-clause-few
returns-clause-few g c = seek_few c.args.spot.width c.args.spot.kind _ _ _ c.touch_lines.ensures.steps c.seek_groups.ensures.few c.seek_groups.ensures.steps

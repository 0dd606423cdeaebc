use Rattle.mt_keep.proofs.Prelude.{rules, ap, ◌∙◌, ◌∷◌, [], cuts_in}
use Rattle.mt_keep.proofs.Taking.{seated_views}
use Rattle.mt_keep.proofs.keep.Keep.chair.Goals as goal

pub returns-clause-other : goal.returns-clause-other
returns-clause-other g c = record { table = search rules; views = seated_views (c.into_badge.ensures.2 ∙ ap (λ m. m.0 ∷ []) c.seat.ensures.seat) }

pub returns-clause-other_cuts : goal.returns-clause-other_cuts
returns-clause-other_cuts g c = ap cuts_in (c.into_badge.ensures.2 ∙ ap (λ m. m.0 ∷ []) c.seat.ensures.seat)

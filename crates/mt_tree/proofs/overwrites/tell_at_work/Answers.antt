use Rattle.mt_tree.proofs.Prelude.{List, ap, ◌∙◌, subst, Range, Sheet, TellsMet, ranges_met}
use Rattle.mt_tree.proofs.AtWork.{still_few}
use Rattle.mt_tree.proofs.Calling.{map_still}
use Rattle.mt_tree.proofs.Forms.{looked}
use Rattle.mt_tree.proofs.overwrites.tell_at_work.Goals as goal

pub end-requires-clause-few : goal.end-requires-clause-few
end-requires-clause-few g c = still_few _ _ _ _ _ c.begin-engine.ensures.work c.tell_met-count.new.engine (ap (λ (s : Sheet). s.told) c.tell_met-count.ensures.rest)

pub returns-clause-looked : goal.returns-clause-looked
returns-clause-looked g c = looked _ _ _ _ _ _ c.args.pass.now _ c.begin-engine.ensures.work c.end.ensures.back c.tell_met-count.ensures.rest c.tell_met-count.ensures.book c.tell_met-count.ensures.kind (c.end.ensures.counted ∙ c.requires.worker.counted) (c.end.ensures.turn ∙ c.requires.worker.turn_is)

pub returns-clause-tells : goal.returns-clause-tells
returns-clause-tells g c =
    subst (λ (m : List Range). TellsMet g.P.RangePlace.shows (ranges_met m c.args.first c.args.last) c.args.met.now c.tell_met-count.new.met c.tell_met-count.result) (map_still _ _ _ _ _ _ _ _ c.begin-engine.ensures.work c.end.ensures.back (ap (λ (s : Sheet). s.told) c.tell_met-count.ensures.rest)) c.tell_met-count.ensures.tells

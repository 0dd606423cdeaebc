use Rattle.mt_tree.proofs.Prelude.{ap, Sheet}
use Rattle.mt_tree.proofs.AtWork.{still_few}
use Rattle.mt_tree.proofs.Calling.{made_ready, saw_all, seen_still, shorts, told_scanned, was_prepared}
use Rattle.mt_tree.proofs.works.preallocate.Goals as goal

pub end-requires-clause-few : goal.end-requires-clause-few
end-requires-clause-few g c =
    still_few _ _ _ _ _ c.begin-engine.ensures.work c.preallocate-made.new.self (ap (λ (s : Sheet). s.told) c.preallocate-made.ensures.scanned.rest)

pub returns-clause-prepared : goal.returns-clause-prepared
returns-clause-prepared g c =
    was_prepared _ _ _ _ _ _ _ _ c.begin-engine.ensures.work c.end.ensures.back c.preallocate-made.ensures.scanned c.preallocate-made.ensures.kind

pub returns-clause-seen : goal.returns-clause-seen
returns-clause-seen g c =
    seen_still _ _ _ _ _ _ _ _ c.begin-engine.ensures.work c.end.ensures.back (told_scanned _ _ _ _ _ _ _ _ c.begin-engine.ensures.work c.end.ensures.back c.preallocate-made.ensures.scanned c.preallocate-made.ensures.kind)

pub returns-clause-saw : goal.returns-clause-saw
returns-clause-saw g c =
    saw_all _ _ _ _ _ _ _ _ c.begin-engine.ensures.work c.end.ensures.back (told_scanned _ _ _ _ _ _ _ _ c.begin-engine.ensures.work c.end.ensures.back c.preallocate-made.ensures.scanned c.preallocate-made.ensures.kind)

pub returns-clause-ready : goal.returns-clause-ready
returns-clause-ready g c =
    made_ready _ _ _ _ _ _ _ _ c.begin-engine.ensures.work c.end.ensures.back c.preallocate-made.ensures.scanned c.preallocate-made.ensures.kind c.preallocate-made.result c.preallocate-made.ensures.ready

pub returns-clause-short : goal.returns-clause-short
returns-clause-short g c =
    shorts _ _ _ _ _ _ _ _ c.begin-engine.ensures.work c.end.ensures.back c.preallocate-made.ensures.scanned c.preallocate-made.ensures.kind c.preallocate-made.result c.preallocate-made.ensures.short

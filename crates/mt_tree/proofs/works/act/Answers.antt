use Rattle.mt_tree.proofs.Prelude.{◌<◌, List, sym, subst, AllByRecursion, Record, passes_of}
use Rattle.mt_tree.proofs.Answering.{acts_behind, was_answered}
use Rattle.mt_tree.proofs.AtWork.{one_more_fits}
use Rattle.mt_tree.proofs.Calling.{by_answer, named_by_answer, refused_still, seen_then, tree_back, wrote}
use Rattle.mt_tree.proofs.works.act.Goals as goal

pub end-requires-clause-few : goal.end-requires-clause-few
end-requires-clause-few g c =
    one_more_fits _ _ _ _ _ c.begin-engine.ensures.work c.applied-engine.result.0 c.args.call.now c.applied-engine.result.1 c.applied-engine.ensures.applied.ended.record_told c.requires.room

pub returns-clause-seen : goal.returns-clause-seen
returns-clause-seen g c =
    seen_then _ _ _ _ _ _ _ _ c.begin-engine.ensures.work c.end.ensures.back c.args.call.now c.applied-engine.result.1 c.applied-engine.ensures.applied.ended

pub returns-clause-wrote : goal.returns-clause-wrote
returns-clause-wrote g c =
    let applied = c.applied-engine.ensures.applied in
    wrote _ _ _ _ _ _ _ _ c.begin-engine.ensures.work c.end.ensures.back c.args.call.now c.applied-engine.result.1 applied.ended
    (by_answer _ _ _ _ _ _ _ _ c.begin-engine.ensures.work c.end.ensures.back c.args.call.now c.applied-engine.result.1 applied.ended applied.answer)

pub returns-clause-named : goal.returns-clause-named
returns-clause-named g c =
    let applied = c.applied-engine.ensures.applied in
    named_by_answer _ _ _ _ _ _ _ _ c.begin-engine.ensures.work c.end.ensures.back c.args.call.now c.applied-engine.result.1 applied.ended applied.answer

pub returns-clause-kept : goal.returns-clause-kept
returns-clause-kept g c =
    λ is. tree_back _ _ _ _ _ _ _ _ c.begin-engine.ensures.work c.end.ensures.back (refused_still c.begin-engine.result c.applied-engine.result.0 c.args.call.now c.applied-engine.result.1 c.applied-engine.ensures.applied.answer is)

pub returns-clause-answered : goal.returns-clause-answered
returns-clause-answered g c =
    was_answered _ _ _ _ _ _ _ _ c.begin-engine.ensures.work c.end.ensures.back c.args.call.now c.applied-engine.result.1 c.applied-engine.ensures.applied

pub returns-clause-callers : goal.returns-clause-callers
returns-clause-callers g c =
    let seen = seen_then _ _ _ _ _ _ _ _ c.begin-engine.ensures.work c.end.ensures.back c.args.call.now c.applied-engine.result.1 c.applied-engine.ensures.applied.ended in
    subst (λ (rs : List Record). AllByRecursion (λ r. r.pass < passes_of c.args.tree.now) rs) (sym seen) c.end.ensures.back.callers

pub returns-clause-acts : goal.returns-clause-acts
returns-clause-acts g c = λ done. acts_behind _ _ _ _ _ _ _ _ c.begin-engine.ensures.work c.end.ensures.back c.args.call.now c.applied-engine.result.1 c.applied-engine.ensures.applied done

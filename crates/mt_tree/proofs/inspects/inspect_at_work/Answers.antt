use Rattle.mt_tree.proofs.Prelude.{ap, ◌∙◌, sym, subst, Kind, Rooted, Sheet}
use Rattle.mt_tree.proofs.AtWork.{still_few, tree_is}
use Rattle.mt_tree.proofs.Forms.{looked}
use Rattle.mt_tree.proofs.inspects.inspect_at_work.Goals as goal

pub inspect-engine-requires-clause-may : goal.inspect-engine-requires-clause-may
inspect-engine-requires-clause-may g c =
    subst (λ (x : Kind × Rooted). g.I.Inspect.may c.args.what x.0 x.1) (λ k. (sym c.args.tree.now.kind k, sym (tree_is _ _ _ _ _ c.begin-engine.ensures.work) k)) c.requires.may

pub end-requires-clause-few : goal.end-requires-clause-few
end-requires-clause-few g c = still_few _ _ _ _ _ c.begin-engine.ensures.work c.inspect-engine.result.0 (ap (λ (s : Sheet). s.told) c.inspect-engine.ensures.rest)

pub returns-clause-looked : goal.returns-clause-looked
returns-clause-looked g c = looked _ _ _ _ _ _ c.args.pass.now _ c.begin-engine.ensures.work c.end.ensures.back c.inspect-engine.ensures.rest c.inspect-engine.ensures.book c.inspect-engine.ensures.kind (c.end.ensures.counted ∙ c.requires.worker.counted) (c.end.ensures.turn ∙ c.requires.worker.turn_is)

pub returns-clause-finds : goal.returns-clause-finds
returns-clause-finds g c =
    subst (λ (x : Kind × Rooted). g.I.Inspect.finds c.args.what x.0 x.1 c.inspect-engine.result.1) (λ k. (c.args.tree.now.kind k, tree_is _ _ _ _ _ c.begin-engine.ensures.work k)) c.inspect-engine.ensures.finds

use Rattle.mt_tree.proofs.Prelude.{sym, subst, Behind, opened}
use Rattle.mt_tree.proofs.Keeping.{counted_looked}
use Rattle.mt_tree.proofs.behind.WriterState.inspect.Goals as goal

pub inspect_at_work-requires-clause-may : goal.inspect_at_work-requires-clause-may
inspect_at_work-requires-clause-may g c = subst (λ (b : Behind). g.I.Inspect.may c.args.what (opened c.args.tree.now).kind b.parts.sheet.tree) (sym c.self.view_is) c.requires.may

pub inspect_at_work-requires-in-Short-clause-may : goal.inspect_at_work-requires-in-Short-clause-may
inspect_at_work-requires-in-Short-clause-may g c = subst (λ (b : Behind). g.I.Inspect.may c.args.what (opened c.args.tree.now).kind b.parts.sheet.tree) (sym c.self.view_is) c.requires.may

pub returns-in-Long-clause-finds : goal.returns-in-Long-clause-finds
returns-in-Long-clause-finds g c =
    subst (λ (b : Behind). g.I.Inspect.finds c.args.what (opened c.args.tree.now).kind b.parts.sheet.tree c.inspect_at_work.result) c.self.view_is c.inspect_at_work.ensures.finds

pub returns-in-Short-clause-finds : goal.returns-in-Short-clause-finds
returns-in-Short-clause-finds g c =
    subst (λ (b : Behind). g.I.Inspect.finds c.args.what (opened c.args.tree.now).kind b.parts.sheet.tree c.inspect_at_work-in-Short.result) c.self.view_is c.inspect_at_work-in-Short.ensures.finds

pub invariant_of-self : goal.invariant_of-self
invariant_of-self g c = (c.inspect_at_work.ensures.rest, counted_looked _ _ _ _ _ _ c.inspect_at_work.ensures.looked c.self.invariant.1)

pub invariant_of-self-in-Short : goal.invariant_of-self-in-Short
invariant_of-self-in-Short g c = (c.inspect_at_work-in-Short.ensures.rest, counted_looked _ _ _ _ _ _ c.inspect_at_work-in-Short.ensures.looked c.self.invariant.1)

use Rattle.mt_engine.proofs.Prelude.{sym, ap, ◌∙◌, subst, IfSome, Rooted, IsHandleOf, range_at, nearest_from, same_tree}
use Rattle.mt_engine.proofs.SlotQueries.{IsNearest}
use Rattle.mt_engine.proofs.Walking.{none_found, here_is, nearest_found, steps_within}
use Rattle.mt_engine.proofs.range_walk.slot_found.Goals as goal

pub returns-in_err-here-clause-range : goal.returns-in_err-here-clause-range
returns-in_err-here-clause-range g c =
    ap range_at c.from_residual.ensures ∙ none_found _ c.requires.tree.0 c.requires.tree.1 c.args.walk.now c.requires.walk c.in_err-here.ensures.here

pub slot_from-requires-clause-here : goal.slot_from-requires-clause-here
slot_from-requires-clause-here g c =
    subst (λ (t : Rooted). IsHandleOf t c.in_ok-here.here) (sym (same_tree (g.R.Rows.sheet c.args.rows.now) (g.R.Rows.sheet c.slot_next.new.rows) c.in_ok-here.ensures.rest)) (here_is _ c.requires.tree.0 c.requires.tree.1 c.args.walk.now c.requires.walk c.in_ok-here.here c.in_ok-here.ensures.here)

pub returns-clause-handle : goal.returns-clause-handle
returns-clause-handle g c = subst (λ (t : Rooted). IfSome c.slot_from.result (IsHandleOf t)) (same_tree (g.R.Rows.sheet c.args.rows.now) (g.R.Rows.sheet c.slot_next.new.rows) c.in_ok-here.ensures.rest) c.slot_from.ensures.handle

pub returns-clause-range : goal.returns-clause-range
returns-clause-range g c =
    nearest_found _ c.requires.tree.0 c.requires.tree.1 c.args.walk.now c.requires.walk c.in_ok-here.here (range_at c.slot_from.result) c.in_ok-here.ensures.here
    (subst (λ (t : Rooted). IsNearest nearest_from t c.in_ok-here.here (range_at c.slot_from.result)) (same_tree (g.R.Rows.sheet c.args.rows.now) (g.R.Rows.sheet c.slot_next.new.rows) c.in_ok-here.ensures.rest) c.slot_from.ensures.range)

pub returns-clause-near : goal.returns-clause-near
returns-clause-near g c =
    let s = g.R.Rows.sheet c.args.rows.now in let s₁ = g.R.Rows.sheet c.slot_next.new.rows in let s₂ = g.R.Rows.sheet c.slot_from.new.rows in
    steps_within s s₁ s₂ c.requires.tree.0 c.requires.tree.1 c.args.walk.now c.in_ok-here.here c.slot_from.result (here_is _ c.requires.tree.0 c.requires.tree.1 c.args.walk.now c.requires.walk c.in_ok-here.here c.in_ok-here.ensures.here) c.in_ok-here.ensures.rest
    c.in_ok-here.ensures.near c.slot_from.ensures.unread c.slot_from.ensures.near c.slot_from.ensures.range

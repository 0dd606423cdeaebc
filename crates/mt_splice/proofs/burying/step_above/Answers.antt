use Rattle.mt_splice.proofs.Prelude.{◌<◌, List, length, sym, ap, ◌∙◌, subst, arith, few_columns, PathStep, step_at}
use Rattle.mt_splice.proofs.Children.{next_slot_fits, within_above, way_reaches, way_goes, next_reaches}
use Rattle.mt_splice.proofs.burying.step_above.Goals as goal

pub overflow_add-result : goal.overflow_add-result
overflow_add-result g c =
    let fits = next_slot_fits c.requires.tree.1 c.requires.child in let few = few_columns (g.R.Rows.sheet c.args.rows.now).tree.table.width in omega (arith, fits, few)

pub returns-then-child-clause-step : goal.returns-then-child-clause-step
returns-then-child-clause-step g c = within_above c.requires.tree.1 c.requires.child c.if-child.true

pub step_right-requires-clause-level : goal.step_right-requires-clause-level
step_right-requires-clause-level g c = way_reaches c.requires.tree.1 c.requires.child c.requires.way

pub step_on-requires : goal.step_on-requires
step_on-requires g c =
    let path = way_goes c.requires.tree.1 c.requires.child c.step_right.result c.requires.way c.if-child.false c.requires.more c.step_right.ensures.none c.step_right.ensures.some in
    subst (λ (l : List PathStep). c.args.level < length l) (sym path) (next_reaches c.requires.tree.1 c.requires.child c.requires.more)

pub returns-clause-step : goal.returns-clause-step
returns-clause-step g c =
    c.step_on.ensures
    ∙ ap (λ (l : List PathStep). step_at l c.args.level) (way_goes c.requires.tree.1 c.requires.child c.step_right.result c.requires.way c.if-child.false c.requires.more c.step_right.ensures.none c.step_right.ensures.some)

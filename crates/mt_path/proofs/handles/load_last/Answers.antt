use Rattle.mt_path.proofs.Prelude.{ap, ◌∙◌, arith, Width, Leaf, slots_of}
use Rattle.mt_path.proofs.LeafSteps.{last_place, last_is_pivot, last_is_max}
use Rattle.mt_path.proofs.handles.load_last.Goals as goal

pub load-requires : goal.load-requires
load-requires g c =
    let slots = c.slots.ensures ∙ ap (λ (w : Width). slots_of w Leaf) c.width.ensures in
    let below = c.if-leaf-slots.true in
    last_place (g.R.Rows.sheet c.args.rows.now).tree _ _ c.requires.tree.1 c.requires.leaf (omega arith)

pub returns-then-leaf-slots-clause-last : goal.returns-then-leaf-slots-clause-last
returns-then-leaf-slots-clause-last g c =
    let slots = c.slots.ensures ∙ ap (λ (w : Width). slots_of w Leaf) c.width.ensures in
    let below = c.if-leaf-slots.true in
    c.load.ensures.word ∙ last_is_pivot (g.R.Rows.sheet c.args.rows.now).tree _ _ c.requires.tree.1 c.requires.leaf (omega arith)

pub returns-clause-last : goal.returns-clause-last
returns-clause-last g c =
    let slots = c.slots.ensures ∙ ap (λ (w : Width). slots_of w Leaf) c.width.ensures in
    let past = c.if-leaf-slots.false in
    last_is_max (g.R.Rows.sheet c.args.rows.now).tree _ _ c.requires.tree.1 c.requires.leaf (omega arith)

use Rattle.mt_path.proofs.Prelude.{ℕ, ◌+◌, sym, ap, ◌∙◌, subst, Width, Leaf, slots_of, IsPlace, word_at}
use Rattle.mt_path.proofs.LeafSteps.{slot_place, word_is}
use Rattle.mt_path.proofs.handles.load_word.Goals as goal

pub load-requires : goal.load-requires
load-requires g c =
    let t = (g.R.Rows.sheet c.args.rows.now).tree in
    let slots = c.slots.ensures ∙ ap (λ (w : Width). slots_of w Leaf) c.width.ensures in
    subst (λ (n : ℕ). IsPlace t c.args.leaf.row (n + c.args.leaf.slot)) (sym slots) (slot_place t _ _ c.requires.tree.1 c.requires.leaf)

pub returns-clause-word : goal.returns-clause-word
returns-clause-word g c =
    let t = (g.R.Rows.sheet c.args.rows.now).tree in
    let slots = c.slots.ensures ∙ ap (λ (w : Width). slots_of w Leaf) c.width.ensures in
    c.load.ensures.word ∙ (ap (λ (n : ℕ). word_at t c.args.leaf.row (n + c.args.leaf.slot)) slots ∙ word_is t _ _ c.requires.tree.1 c.requires.leaf)

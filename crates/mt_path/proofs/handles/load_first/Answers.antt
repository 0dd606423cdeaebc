use Rattle.mt_path.proofs.Prelude.{◌+◌, ℕ, ap, ◌∙◌, arith}
use Rattle.mt_path.proofs.LeafSteps.{pivot_place, first_is_behind, first_fits}
use Rattle.mt_path.proofs.handles.load_first.Goals as goal

pub load-requires : goal.load-requires
load-requires g c = pivot_place _ _ _ c.requires.tree.1 c.requires.leaf

pub overflow_add-result : goal.overflow_add-result
overflow_add-result g c =
    let begins = ap (λ (n : ℕ). n + 1) c.load.ensures.word ∙ first_is_behind _ _ _ c.requires.tree.1 c.requires.leaf c.if-leaf-eq0.false in
    let fits = first_fits _ _ _ c.requires.tree.1 c.requires.leaf in
    omega arith

pub returns-clause-first : goal.returns-clause-first
returns-clause-first g c = ap (λ (n : ℕ). n + 1) c.load.ensures.word ∙ first_is_behind _ _ _ c.requires.tree.1 c.requires.leaf c.if-leaf-eq0.false

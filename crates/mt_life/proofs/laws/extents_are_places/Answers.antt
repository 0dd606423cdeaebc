use Rattle.mt_life.proofs.Prelude.{◌≡◌, ◌≢◌, ℕ, sym, subst, arith, refl, tree_as, height_in, on_level, height_is}
use Rattle.mt_life.proofs.Fitting.{placed}
use Rattle.mt_life.proofs.laws.extents_are_places.Goals as goal

pub returns : goal.returns
returns c = λ kind s e m h k x known stands at.
    let some : s.tree.root ≢ 0 = λ empty.
    let tall = height_is (tree_as kind s.tree) h stands in
    let flat : height_in s.tree.table s.tree.root ≡ 0 = subst (λ (r : ℕ). height_in s.tree.table r ≡ 0) (sym empty) refl in
    absurd (omega arith) in
    placed kind s e m known h stands some k x (on_level (tree_as kind s.tree) h stands k x at)

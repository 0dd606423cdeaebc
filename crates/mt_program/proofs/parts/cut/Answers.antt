use Rattle.mt_program.proofs.Prelude.{◌≡◌, ◌+◌, ◌&&◌, ℕ, List, arith, false, get_or, refl, subst, suc, ◌==◌, take_rest, is_cut}
use Rattle.mt_program.proofs.CutLines.{IsSoFar, cut_steps}
use Rattle.mt_program.proofs.parts.cut.Goals as goal

pub loop-at-preserved : goal.loop-at-preserved
loop-at-preserved c =
    let next : suc c.loop-at.at ≡ c.loop-at.at + 1 = omega arith in
    let none = subst (λ (rest : List ℕ). (c.loop-at.begins && is_cut rest) ≡ false) (take_rest c.args.bytes.now c.loop-at.at) c.in-None.ensures in
    subst (λ (n : ℕ). IsSoFar c.args.bytes.now n (get_or c.args.bytes.now c.loop-at.at 0 == 10)) next
    (cut_steps c.args.bytes.now c.loop-at.at c.loop-at.begins (get_or c.args.bytes.now c.loop-at.at 0) c.loop-at-test.true refl none c.loop-at.invariant)

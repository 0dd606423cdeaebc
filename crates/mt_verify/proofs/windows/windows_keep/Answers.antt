use Rattle.mt_verify.proofs.Prelude.{◌≡◌, ℕ, ◌<◌, ◌≤◌, List, AllPairs, length, take, get_or, arith, refl, sym, subst, IsTrue, take_more, ToldLine, AreMarked, InPrintedOrder}
use Rattle.mt_verify.proofs.InOrder.{pairs_at, pairs_more, pairs_before}
use Rattle.mt_verify.proofs.windows.windows_keep.Goals as goal

-- behind a line the phases are no lower than its own
phase_rises : (told : List ToldLine) (i k : ℕ) (d e : ToldLine) (p q : ℕ) → AllPairs (λ s t. s.phase ≤ t.phase) told → i < k → k < length told → p ≡ (get_or told i d).phase → q ≡ p → q ≤ (get_or told k e).phase
phase_rises told i k d e p q rising before within is same = omega (arith, is, same, pairs_at (λ (s t : ToldLine). s.phase ≤ t.phase) told i k d e before within rising)

pub returns-then-not-admit : goal.returns-then-not-admit
returns-then-not-admit c =
    let told = c.args.told.now in
    let i = c.loop-one.one-index in
    let known = c.admit.ensures (take i told) (c.enter.ensures.marked (take i told) c.loop-one.invariant.0) c.enter.ensures.phase in
    (λ yes. absurd (cc), λ pairs. subst IsTrue c.if-not-admit.true (known.1 (pairs_before InPrintedOrder told i _ c.loop-one-test.true pairs)))

pub loop-one-preserved : goal.loop-one-preserved
loop-one-preserved c =
    let told = c.args.told.now in
    let i = c.loop-one.one-index in
    let marked = c.enter.ensures.marked (take i told) c.loop-one.invariant.0 in
    let known = c.admit.ensures (take i told) marked c.enter.ensures.phase in (
      subst (AreMarked c.add.new.self) (sym (take_more told i _ c.loop-one-test.true)) (c.add.ensures.marked (take i told) marked c.enter.ensures.phase),
      pairs_more InPrintedOrder told i _ c.loop-one-test.true c.loop-one.invariant.1 (known.0 (subst IsTrue (sym c.if-not-admit.false) refl)),
      λ k d from within. phase_rises told i k _ d c.enter.new.self.phase c.add.new.self.phase c.requires.phases (omega arith) within c.enter.ensures.phase c.add.ensures.phase,
    )

use Rattle.mt_sequential.proofs.Prelude.{◌≡◌, ℕ, suc, ◌+◌, ◌-◌, [], ◌∷◌, ◌++◌, Some, None, arith, sym, ap, subst, ◌∙◌, append-nil, answer, find_at, TreeState, read_entry, scan_entries}
use Rattle.mt_sequential.proofs.Scanning.{scan_ends, scan_goes_on}
use Rattle.mt_sequential.proofs.player.Played.scan.Goals as goal

pub returns-in-None-clause-told : goal.returns-in-None-clause-told
returns-in-None-clause-told g c =
    let t : TreeState = c.args.self.now in
    let same = c.loop-step.invariant.0 in
    let left : ℕ = c.args.count - (c.loop-step._step + 1) in
    let more : c.args.count - c.loop-step._step ≡ suc left = omega (arith, c.loop-step-test.true) in
    let told : c.ask.new.entries.items ≡ c.loop-step.entries.items ++ read_entry c.args.line t (find_at c.loop-step.at c.args.max) ∷ [] = subst (λ (x : TreeState). c.ask.new.entries.items ≡ c.loop-step.entries.items ++ read_entry c.args.line x (find_at c.loop-step.at c.args.max) ∷ []) same (rw c.find_at.ensures at c.in_ok-range.ensures.told) in
    let none : None ≡ answer t.map.ranges (find_at c.loop-step.at c.args.max) = sym c.in-None.is ∙ ((rw c.find_at.ensures at c.in_ok-range.ensures.value) ∙ ap (λ (x : TreeState). answer x.map.ranges (find_at c.loop-step.at c.args.max)) same) in
    c.loop-step.invariant.1 c.ask.new.entries.items (scan_ends c.args.line t c.args.max (c.args.count - c.loop-step._step) left c.loop-step.at more c.loop-step.entries.items c.ask.new.entries.items told none)

pub loop-step-preserved : goal.loop-step-preserved
loop-step-preserved g c =
    let t : TreeState = c.args.self.now in
    let same = c.loop-step.invariant.0 in
    let left : ℕ = c.args.count - (c.loop-step._step + 1) in
    let more : c.args.count - c.loop-step._step ≡ suc left = omega (arith, c.loop-step-test.true) in
    let told : c.ask.new.entries.items ≡ c.loop-step.entries.items ++ read_entry c.args.line t (find_at c.loop-step.at c.args.max) ∷ [] = subst (λ (x : TreeState). c.ask.new.entries.items ≡ c.loop-step.entries.items ++ read_entry c.args.line x (find_at c.loop-step.at c.args.max) ∷ []) same (rw c.find_at.ensures at c.in_ok-range.ensures.told) in
    let found : Some c.in-Some.range ≡ answer t.map.ranges (find_at c.loop-step.at c.args.max) = sym c.in-Some.is ∙ ((rw c.find_at.ensures at c.in_ok-range.ensures.value) ∙ ap (λ (x : TreeState). answer x.map.ranges (find_at c.loop-step.at c.args.max)) same) in (
      c.in_ok-range.ensures.kept ∙ same,
      λ all behind. c.loop-step.invariant.1 all (scan_goes_on c.args.line t c.args.max (c.args.count - c.loop-step._step) left c.loop-step.at more c.loop-step.entries.items c.ask.new.entries.items told c.in-Some.range all found (rw c.place_after-at.ensures at behind)),
    )

pub returns-clause-told : goal.returns-clause-told
returns-clause-told g c =
    let none : c.args.count - c.loop-step._step ≡ 0 = omega arith in
    c.loop-step.invariant.1 c.loop-step.entries.items (sym (append-nil c.loop-step.entries.items) ∙ ap (λ (n : ℕ). c.loop-step.entries.items ++ scan_entries c.args.line c.args.self.now c.args.max n c.loop-step.at) (sym none))

use Rattle.mt_gap.proofs.Prelude.{◌≡◌, ◌<◌, ◌-◌, ℕ, IsTrue, List, Some, length, sym, subst, rules, arith, Gapped, gap_column, named_kind, slots_of, PathStep, step_at, MayTend, tended, MayMend, IsMended}
use Rattle.mt_gap.proofs.Along.{HasMendedOn, level_within, words_on, may_mend_on, mended_on, spans_on, leaf_below, first_slot, first_tend, told_first}
use Rattle.mt_gap.proofs.MendWay.{end_way, nothing_to_mend, spans_loaded}
use Rattle.mt_gap.proofs.mends.mend_along.Goals as goal

pub returns-then-not-has_gaps : goal.returns-then-not-has_gaps
returns-then-not-has_gaps g c = record {
  gaps = λ gapped told. nothing_to_mend gapped (g.R.Rows.sheet c.args.rows.now) (g.R.Rows.sheet c.has_gaps.new.rows) c.args.path.now.items told.leaf told.way
      (λ root. let is : IsTrue c.has_gaps.result = c.has_gaps.ensures.gapped.1 root in absurd (search rules)) c.has_gaps.ensures.rest;
  rest = search rules;
  words = search rules;
  plain = search rules;
  spans = λ gapped h stands. spans_loaded (g.R.Rows.sheet c.args.rows.now) (g.R.Rows.sheet c.has_gaps.new.rows) gapped h c.has_gaps.ensures.rest stands;
}

pub overflow_sub-level : goal.overflow_sub-level
overflow_sub-level g c =
    let root : named_kind (g.R.Rows.sheet c.args.rows.now).tree.root ≡ Some Gapped = c.has_gaps.ensures.gapped.0 (search rules) in
    let two = leaf_below c.requires.way.0 (g.R.Rows.sheet c.args.rows.now) (g.R.Rows.sheet c.has_gaps.new.rows) c.args.path.now.items c.args.gap c.requires.way.1 root c.has_gaps.ensures.rest in
    let many = c.len-level.ensures.value in
    omega arith

pub overflow_sub-level-2 : goal.overflow_sub-level-2
overflow_sub-level-2 g c =
    let root : named_kind (g.R.Rows.sheet c.args.rows.now).tree.root ≡ Some Gapped = c.has_gaps.ensures.gapped.0 (search rules) in
    let two = leaf_below c.requires.way.0 (g.R.Rows.sheet c.args.rows.now) (g.R.Rows.sheet c.has_gaps.new.rows) c.args.path.now.items c.args.gap c.requires.way.1 root c.has_gaps.ensures.rest in
    let many = c.len-level.ensures.value in
    omega arith

pub bounds-deref-level : goal.bounds-deref-level
bounds-deref-level g c =
    let root : named_kind (g.R.Rows.sheet c.args.rows.now).tree.root ≡ Some Gapped = c.has_gaps.ensures.gapped.0 (search rules) in
    let two = leaf_below c.requires.way.0 (g.R.Rows.sheet c.args.rows.now) (g.R.Rows.sheet c.has_gaps.new.rows) c.args.path.now.items c.args.gap c.requires.way.1 root c.has_gaps.ensures.rest in
    let many = c.len-level.ensures.value in
    subst (λ (l : List PathStep). c.len-level.result - 1 - 1 < length l) (sym c.deref.ensures.0) (omega arith)

pub tend_gap-requires-clause-slot : goal.tend_gap-requires-clause-slot
tend_gap-requires-clause-slot g c =
    let s' = g.R.Rows.sheet c.has_gaps.new.rows in
    let root : named_kind (g.R.Rows.sheet c.args.rows.now).tree.root ≡ Some Gapped = c.has_gaps.ensures.gapped.0 (search rules) in
    subst (λ (p : List PathStep × ℕ). (step_at p.0 (p.1 - 1 - 1)).slot < slots_of (g.R.Rows.sheet c.has_gaps.new.rows).tree.table.width Gapped)
    (λ i. (sym c.deref.ensures.0 i, sym c.len-level.ensures.value i))
    (first_slot c.requires.way.0 (g.R.Rows.sheet c.args.rows.now) s' c.args.path.now.items c.args.gap c.requires.way.1 root c.has_gaps.ensures.rest (g.met.R.Rows.whole c.has_gaps.new.rows))

pub tend_gap-requires-clause-tend : goal.tend_gap-requires-clause-tend
tend_gap-requires-clause-tend g c =
    let s' = g.R.Rows.sheet c.has_gaps.new.rows in
    let root : named_kind (g.R.Rows.sheet c.args.rows.now).tree.root ≡ Some Gapped = c.has_gaps.ensures.gapped.0 (search rules) in
    subst (λ (p : List PathStep × ℕ). MayTend (g.R.Rows.sheet c.has_gaps.new.rows) (step_at p.0 (p.1 - 1 - 1)).row (gap_column (slots_of (g.R.Rows.sheet c.has_gaps.new.rows).tree.table.width Gapped) (step_at p.0 (p.1 - 1 - 1)).slot) c.args.gap)
    (λ i. (sym c.deref.ensures.0 i, sym c.len-level.ensures.value i))
    (first_tend c.requires.way.0 (g.R.Rows.sheet c.args.rows.now) s' c.args.path.now.items c.args.gap c.requires.way.1 root c.has_gaps.ensures.rest (g.met.R.Rows.whole c.has_gaps.new.rows))

pub loop-level-init : goal.loop-level-init
loop-level-init g c =
    let s = g.R.Rows.sheet c.args.rows.now in
    let s' = g.R.Rows.sheet c.has_gaps.new.rows in
    let s'' = g.R.Rows.sheet c.tend_gap.new.rows in
    let root : named_kind s.tree.root ≡ Some Gapped = c.has_gaps.ensures.gapped.0 (search rules) in
    let tends =
    subst (λ (p : List PathStep × ℕ). s'' ≡ tended s' (step_at p.0 (p.1 - 1 - 1)).row (gap_column (slots_of s'.tree.table.width Gapped) (step_at p.0 (p.1 - 1 - 1)).slot) c.args.gap)
    (λ i. (c.deref.ensures.0 i, c.len-level.ensures.value i)) c.tend_gap.ensures in (
      c.requires.way.1.leaf,
      subst (λ (n : ℕ). HasMendedOn s s'' c.args.path.now.items c.requires.way.1.leaf Gapped (n - 1) (step_at c.args.path.now.items (n - 1 - 1))) (sym c.len-level.ensures.value)
          (told_first c.requires.way.0 s s' c.args.path.now.items c.args.gap c.requires.way.1 root c.has_gaps.ensures.rest (g.met.R.Rows.whole c.has_gaps.new.rows) s'' tends),
    )

pub bounds-deref-level-in-loop-level : goal.bounds-deref-level-in-loop-level
bounds-deref-level-in-loop-level g c =
    let l = c.loop-level in
    let low = level_within (g.R.Rows.sheet c.args.rows.now) (g.R.Rows.sheet l.rows) c.args.path.now.items l.invariant.0 Gapped l.level (step_at c.args.path.now.items (l.level - 1)) l.invariant.1 in
    let more = c.loop-level-test.true in
    subst (λ (steps : List PathStep). c.loop-level.level - 1 - 1 < length steps) (sym c.deref-in-loop-level.ensures.0) (omega arith)

pub bounds-deref-level-in-loop-level-2 : goal.bounds-deref-level-in-loop-level-2
bounds-deref-level-in-loop-level-2 g c =
    let l = c.loop-level in
    let low = level_within (g.R.Rows.sheet c.args.rows.now) (g.R.Rows.sheet l.rows) c.args.path.now.items l.invariant.0 Gapped l.level (step_at c.args.path.now.items (l.level - 1)) l.invariant.1 in
    let more = c.loop-level-test.true in
    subst (λ (steps : List PathStep). c.loop-level.level - 1 < length steps) (sym c.deref-in-loop-level-2.ensures.0) (omega arith)

pub mend_slot-requires : goal.mend_slot-requires
mend_slot-requires g c =
    let l = c.loop-level in
    subst (λ (p : List PathStep × List PathStep). MayMend (g.R.Rows.sheet c.loop-level.rows) Gapped (step_at p.0 (c.loop-level.level - 1 - 1)) (step_at p.1 (c.loop-level.level - 1)))
    (λ i. (sym c.deref-in-loop-level.ensures.0 i, sym c.deref-in-loop-level-2.ensures.0 i))
    (may_mend_on (g.R.Rows.sheet c.args.rows.now) (g.R.Rows.sheet l.rows) c.args.path.now.items l.invariant.0 Gapped l.level (step_at c.args.path.now.items (l.level - 1)) l.invariant.1 c.loop-level-test.true (g.met.R.Rows.whole c.loop-level.rows))

pub loop-level-preserved : goal.loop-level-preserved
loop-level-preserved g c =
    let l = c.loop-level in
    let s = g.R.Rows.sheet c.args.rows.now in
    let s' = g.R.Rows.sheet c.loop-level.rows in
    let s'' = g.R.Rows.sheet c.mend_slot.new.rows in (
      l.invariant.0,
      mended_on s s' c.args.path.now.items l.invariant.0 Gapped l.level (step_at c.args.path.now.items (l.level - 1)) l.invariant.1 c.loop-level-test.true (g.met.R.Rows.whole c.loop-level.rows) s''
          (subst (λ (p : List PathStep × List PathStep). IsMended s' s'' Gapped (step_at p.0 (c.loop-level.level - 1 - 1)) (step_at p.1 (c.loop-level.level - 1)))
          (λ i. (c.deref-in-loop-level.ensures.0 i, c.deref-in-loop-level-2.ensures.0 i)) c.mend_slot.ensures),
    )

pub returns : goal.returns
returns g c = record {
  gaps = λ gapped told. let l = c.loop-level in
      let root : named_kind (g.R.Rows.sheet c.args.rows.now).tree.root ≡ Some Gapped = c.has_gaps.ensures.gapped.0 (search rules) in
      let last = c.loop-level-test.false in
      end_way gapped (g.R.Rows.sheet c.args.rows.now) (g.R.Rows.sheet l.rows) c.args.path.now.items told.leaf l.invariant.1.way Gapped l.level told.way root l.invariant.1.mended (omega arith);
  rest = search rules;
  words = let l = c.loop-level in
      words_on (g.R.Rows.sheet c.args.rows.now) (g.R.Rows.sheet l.rows) c.args.path.now.items l.invariant.0 Gapped l.level (step_at c.args.path.now.items (l.level - 1)) l.invariant.1;
  plain = search rules;
  spans = λ gapped h stands. let l = c.loop-level in
      spans_on gapped (g.R.Rows.sheet c.args.rows.now) (g.R.Rows.sheet l.rows) c.args.path.now.items l.invariant.0 Gapped l.level (step_at c.args.path.now.items (l.level - 1)) h l.invariant.1 stands;
}

use Rattle.mt_gap.proofs.Prelude.{◌≡◌, ◌<◌, ◌≤◌, ◌-◌, ℕ, IsTrue, List, Some, length, sym, subst, rules, arith, Leaf, Gapped, named_kind, PathStep, step_at, MayMend, IsMended}
use Rattle.mt_gap.proofs.Along.{HasMendedOn, level_within, words_on, may_mend_on, mended_on, begin_on, end_on, spans_on}
use Rattle.mt_gap.proofs.MendWay.{nothing_to_mend, spans_loaded}
use Rattle.mt_gap.proofs.mends.mend_way.Given.{Over}
use Rattle.mt_gap.proofs.mends.mend_way.Goals.{After-len-level}
use Rattle.mt_gap.proofs.mends.mend_way.Goals as goal

pub returns-then-not-has_gaps : goal.returns-then-not-has_gaps
returns-then-not-has_gaps g c = record {
  gaps = λ gapped way. nothing_to_mend gapped (g.R.Rows.sheet c.args.rows.now) (g.R.Rows.sheet c.has_gaps.new.rows) c.args.path.now.items c.args.leaf way
      (λ root. let is : IsTrue c.has_gaps.result = c.has_gaps.ensures.gapped.1 root in absurd (search rules)) c.has_gaps.ensures.rest;
  rest = search rules;
  words = search rules;
  plain = search rules;
  spans = λ gapped h stands. spans_loaded (g.R.Rows.sheet c.args.rows.now) (g.R.Rows.sheet c.has_gaps.new.rows) gapped h c.has_gaps.ensures.rest stands;
}

-- there is a level at least
some_levels : (g : Over) (c : After-len-level g) → 1 ≤ c.len-level.result
some_levels g c =
    let root : named_kind (g.R.Rows.sheet c.args.rows.now).tree.root ≡ Some Gapped = c.has_gaps.ensures.gapped.0 (search rules) in
    let begun = begin_on c.requires.way.0 (g.R.Rows.sheet c.args.rows.now) (g.R.Rows.sheet c.has_gaps.new.rows) c.args.path.now.items c.args.leaf c.requires.way.1 root c.has_gaps.ensures.rest in
    let some = begun.mended.at.level.low in
    let many = c.len-level.ensures.value in
    omega arith

pub overflow_sub-last : goal.overflow_sub-last
overflow_sub-last g c = omega (arith, some_levels g (goal.at.overflow_sub-last g c).After-len-level)

pub bounds-deref-level : goal.bounds-deref-level
bounds-deref-level g c =
    subst (λ (l : List PathStep). c.len-level.result - 1 < length l) (sym c.deref.ensures.0) (omega (arith, some_levels g (goal.at.bounds-deref-level g c).After-len-level, c.len-level.ensures.value))

pub loop-level-init : goal.loop-level-init
loop-level-init g c =
    let s = g.R.Rows.sheet c.args.rows.now in
    let s' = g.R.Rows.sheet c.has_gaps.new.rows in
    let root : named_kind s.tree.root ≡ Some Gapped = c.has_gaps.ensures.gapped.0 (search rules) in
    subst (λ (l : List PathStep). HasMendedOn s s' c.args.path.now.items c.args.leaf Leaf c.len-level.result (record (step_at l (c.len-level.result - 1)) { row = c.args.leaf })) (sym c.deref.ensures.0)
    (subst (λ (n : ℕ). HasMendedOn s s' c.args.path.now.items c.args.leaf Leaf n (record (step_at c.args.path.now.items (n - 1)) { row = c.args.leaf })) (sym c.len-level.ensures.value)
    (begin_on c.requires.way.0 s s' c.args.path.now.items c.args.leaf c.requires.way.1 root c.has_gaps.ensures.rest))

pub bounds-deref-level-in-loop-level : goal.bounds-deref-level-in-loop-level
bounds-deref-level-in-loop-level g c =
    let l = c.loop-level in
    let low = level_within (g.R.Rows.sheet c.args.rows.now) (g.R.Rows.sheet l.rows) c.args.path.now.items c.args.leaf l.kind l.level l.below l.invariant in
    let more = c.loop-level-test.true in
    subst (λ (steps : List PathStep). c.loop-level.level - 1 - 1 < length steps) (sym c.deref-in-loop-level.ensures.0) (omega arith)

pub mend_slot-requires : goal.mend_slot-requires
mend_slot-requires g c =
    let l = c.loop-level in
    subst (λ (steps : List PathStep). MayMend (g.R.Rows.sheet c.loop-level.rows) c.loop-level.kind (step_at steps (c.loop-level.level - 1 - 1)) c.loop-level.below) (sym c.deref-in-loop-level.ensures.0)
    (may_mend_on (g.R.Rows.sheet c.args.rows.now) (g.R.Rows.sheet l.rows) c.args.path.now.items c.args.leaf l.kind l.level l.below l.invariant c.loop-level-test.true (g.met.R.Rows.whole c.loop-level.rows))

pub loop-level-preserved : goal.loop-level-preserved
loop-level-preserved g c =
    let l = c.loop-level in
    let s = g.R.Rows.sheet c.args.rows.now in
    let s' = g.R.Rows.sheet c.loop-level.rows in
    let s'' = g.R.Rows.sheet c.mend_slot.new.rows in
    subst (λ (steps : List PathStep). HasMendedOn s s'' c.args.path.now.items c.args.leaf Gapped (c.loop-level.level - 1) (step_at steps (c.loop-level.level - 1 - 1))) (sym c.deref-in-loop-level.ensures.0)
    (mended_on s s' c.args.path.now.items c.args.leaf l.kind l.level l.below l.invariant c.loop-level-test.true (g.met.R.Rows.whole c.loop-level.rows) s''
    (subst (λ (steps : List PathStep). IsMended s' s'' c.loop-level.kind (step_at steps (c.loop-level.level - 1 - 1)) c.loop-level.below) c.deref-in-loop-level.ensures.0 c.mend_slot.ensures))

pub returns : goal.returns
returns g c = record {
  gaps = λ gapped way. let l = c.loop-level in
      let root : named_kind (g.R.Rows.sheet c.args.rows.now).tree.root ≡ Some Gapped = c.has_gaps.ensures.gapped.0 (search rules) in
      let last = c.loop-level-test.false in
      end_on gapped (g.R.Rows.sheet c.args.rows.now) (g.R.Rows.sheet l.rows) c.args.path.now.items c.args.leaf l.kind l.level l.below way root l.invariant (omega arith);
  rest = search rules;
  words = let l = c.loop-level in
      words_on (g.R.Rows.sheet c.args.rows.now) (g.R.Rows.sheet l.rows) c.args.path.now.items c.args.leaf l.kind l.level l.below l.invariant;
  plain = search rules;
  spans = λ gapped h stands. let l = c.loop-level in
      spans_on gapped (g.R.Rows.sheet c.args.rows.now) (g.R.Rows.sheet l.rows) c.args.path.now.items c.args.leaf l.kind l.level l.below h l.invariant stands;
}

use Rattle.mt_gap.proofs.Prelude.{◌≡◌, ℕ, ◌+◌, ◌-◌, IsTrue, Some, sym, subst, rules, arith, Gapped, named_kind, HasMendedRows}
use Rattle.mt_gap.proofs.MendWay.{spans_loaded}
use Rattle.mt_gap.proofs.MendGaps.{begin_rows, end_rows, end_row_spans, mended_below, no_rows_to_mend}
use Rattle.mt_gap.proofs.mends.mend_gaps.Goals as goal

pub returns-then-not-has_gaps : goal.returns-then-not-has_gaps
returns-then-not-has_gaps g c = record {
  gaps = λ gapped may. no_rows_to_mend gapped (g.R.Rows.sheet c.args.rows.now) (g.R.Rows.sheet c.has_gaps.new.rows) c.args.path.now.items may
      (λ root. let is : IsTrue c.has_gaps.result = c.has_gaps.ensures.gapped.1 root in absurd (search rules)) c.has_gaps.ensures.rest;
  rest = search rules;
  words = search rules;
  plain = search rules;
  spans = λ gapped h stands. spans_loaded (g.R.Rows.sheet c.args.rows.now) (g.R.Rows.sheet c.has_gaps.new.rows) gapped h c.has_gaps.ensures.rest stands;
}

pub loop-level-init : goal.loop-level-init
loop-level-init g c =
    let root : named_kind (g.R.Rows.sheet c.args.rows.now).tree.root ≡ Some Gapped = c.has_gaps.ensures.gapped.0 (search rules) in
    subst (λ n. HasMendedRows (g.R.Rows.sheet c.args.rows.now) (g.R.Rows.sheet c.has_gaps.new.rows) c.args.path.now.items _ n 0) (sym c.len-level.ensures.value)
    (begin_rows c.requires.may.0 (g.R.Rows.sheet c.args.rows.now) (g.R.Rows.sheet c.has_gaps.new.rows) c.args.path.now.items c.requires.may.1 root c.has_gaps.ensures.rest)

pub mend_row-requires : goal.mend_row-requires
mend_row-requires g c =
    let s = g.R.Rows.sheet c.args.rows.now in
    let left : c.loop-level.level ≡ c.loop-level.level - 1 - 1 + 2 = omega (arith, c.loop-level-test.true) in
    record { mends = (s, subst (λ (n : ℕ). HasMendedRows s (g.R.Rows.sheet c.loop-level.rows) c.args.path.now.items c.loop-level.kind n 0) left c.loop-level.invariant) }

pub loop-level-preserved : goal.loop-level-preserved
loop-level-preserved g c =
    mended_below (g.R.Rows.sheet c.args.rows.now) (g.R.Rows.sheet c.loop-level.rows) (g.R.Rows.sheet c.mend_row.new.rows) c.args.path.now.items c.loop-level.kind c.loop-level.level c.loop-level.invariant c.loop-level-test.true
    (c.mend_row.ensures.mends (g.R.Rows.sheet c.args.rows.now))

pub returns : goal.returns
returns g c = record {
  gaps = λ gapped may. let root : named_kind (g.R.Rows.sheet c.args.rows.now).tree.root ≡ Some Gapped = c.has_gaps.ensures.gapped.0 (search rules) in
      let last = c.loop-level-test.false in
      end_rows gapped (g.R.Rows.sheet c.args.rows.now) (g.R.Rows.sheet c.loop-level.rows) c.args.path.now.items c.loop-level.kind c.loop-level.level may root c.loop-level.invariant (omega arith);
  rest = search rules;
  words = search rules;
  plain = search rules;
  spans = λ gapped h stands. end_row_spans gapped (g.R.Rows.sheet c.args.rows.now) (g.R.Rows.sheet c.loop-level.rows) c.args.path.now.items c.loop-level.kind c.loop-level.level h c.loop-level.invariant stands;
}

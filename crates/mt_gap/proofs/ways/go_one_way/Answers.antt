use Rattle.mt_gap.proofs.OneWay.{goes_root, ends_in_leaf, may_load_it, goes_nowhere, goes_below, reads_above}
use Rattle.mt_gap.proofs.SingleWay.{one_goes_on, one_not_more, one_not_none}
use Rattle.mt_gap.proofs.Prelude.{ℕ, subst, sym, Gapped, IsPlace, Span, tree_kept, GoesOneWay}
use Rattle.mt_gap.proofs.ways.go_one_way.Goals as goal

pub loop-init : goal.loop-init
loop-init g c =
    let s = g.R.Rows.sheet c.args.rows.now in
    record {
      goes = goes_root c.args.side s c.args.window c.args.path.now.items c.args.root c.requires.tree c.requires.some c.requires.root c.requires.empty;
      one = λ one. (one.0, subst (λ (x : Span). GoesOneWay c.args.side c.args.window s.tree.table one.0 x) (sym c.requires.root) one.1);
    }

pub returns-in_default-clause-end : goal.returns-in_default-clause-end
returns-in_default-clause-end g c =
    ends_in_leaf c.args.side (g.R.Rows.sheet c.args.rows.now) (g.R.Rows.sheet c.loop.rows) c.args.window c.requires.size c.requires.tree c.requires.some c.loop.counter c.loop.path.items c.loop.at c.loop.invariant.goes c.in_default.ensures.none

pub look_below-requires : goal.look_below-requires
look_below-requires g c =
    record { row = subst (λ (r : ℕ). IsPlace (g.R.Rows.sheet c.loop.rows).tree r 0) (sym c.in-Some.ensures.some.0) (may_load_it c.args.side (g.R.Rows.sheet c.args.rows.now) (g.R.Rows.sheet c.loop.rows) c.args.window c.requires.size c.requires.tree c.requires.some c.loop.counter c.loop.path.items c.loop.at c.loop.invariant.goes Gapped c.in-Some.ensures.some.1) }

pub returns-in-Nothing-clause-end : goal.returns-in-Nothing-clause-end
returns-in-Nothing-clause-end g c =
    goes_nowhere c.args.side (g.R.Rows.sheet c.args.rows.now) (g.R.Rows.sheet c.loop.rows) c.args.window c.requires.size c.requires.tree c.requires.some c.loop.counter c.loop.path.items c.loop.at c.loop.invariant.goes (c.in-Some.ensures.some.1) c.in-Some.row c.in-Some.ensures.some.0 (g.R.Rows.sheet c.look_below.new.rows) c.look_below.ensures.reads c.in-Nothing.ensures.below

pub loop-preserved : goal.loop-preserved
loop-preserved g c =
    let s = g.R.Rows.sheet c.args.rows.now in
    let s' = g.R.Rows.sheet c.loop.rows in
    record {
      goes = goes_below c.args.side (g.R.Rows.sheet c.args.rows.now) (g.R.Rows.sheet c.loop.rows) c.args.window c.requires.size c.requires.tree c.requires.some c.loop.counter c.loop.path.items c.loop.at c.loop.invariant.goes (c.in-Some.ensures.some.1) c.in-Some.row c.in-Some.ensures.some.0 (g.R.Rows.sheet c.look_below.new.rows) c.look_below.ensures.reads c.in-One.slot c.in-One.span c.in-One.ensures.below c.push.new.self.items c.push.ensures.items;
      one = λ one. (
          let before = c.loop.invariant.one one in
          one_goes_on c.args.side c.args.window s.tree s'.tree (tree_kept _ s s' c.loop.invariant.goes.reads) c.loop.at c.in-Some.ensures.some.1 c.in-Some.row c.in-Some.ensures.some.0 c.in-One.slot c.in-One.span c.in-One.ensures.below before.0 before.1);
    }

-- where one row of each level is gone into, it ends in a leaf

pub returns-in_default-clause-one : goal.returns-in_default-clause-one
returns-in_default-clause-one g c = λ _. (
  tt,
  reads_above c.args.side (g.R.Rows.sheet c.args.rows.now) (g.R.Rows.sheet c.loop.rows) c.args.window c.requires.size c.requires.tree c.requires.some c.loop.counter c.loop.path.items c.loop.at c.loop.invariant.goes,
)

pub returns-in-Nothing-clause-one : goal.returns-in-Nothing-clause-one
returns-in-Nothing-clause-one g c = λ one.
    let before = c.loop.invariant.one one in
    absurd (one_not_none c.args.side c.args.window (g.R.Rows.sheet c.args.rows.now).tree (g.R.Rows.sheet c.loop.rows).tree (tree_kept _ (g.R.Rows.sheet c.args.rows.now) (g.R.Rows.sheet c.loop.rows) c.loop.invariant.goes.reads) c.loop.at c.in-Some.ensures.some.1 c.in-Some.row c.in-Some.ensures.some.0 c.in-Nothing.ensures.below before.0 before.1)

pub returns-in-More-clause-one : goal.returns-in-More-clause-one
returns-in-More-clause-one g c = λ one.
    let before = c.loop.invariant.one one in
    absurd (one_not_more c.args.side c.args.window (g.R.Rows.sheet c.args.rows.now).tree (g.R.Rows.sheet c.loop.rows).tree (tree_kept _ (g.R.Rows.sheet c.args.rows.now) (g.R.Rows.sheet c.loop.rows) c.loop.invariant.goes.reads) c.loop.at c.in-Some.ensures.some.1 c.in-Some.row c.in-Some.ensures.some.0 c.in-More.ensures.below before.0 before.1)

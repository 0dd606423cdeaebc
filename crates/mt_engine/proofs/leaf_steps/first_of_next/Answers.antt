use Rattle.mt_engine.proofs.Prelude.{◌+◌, ◌∙◌, ℕ, ap, sym, refl, length, arith, eqb-true, eqb-false, greatest_fits, handle_in, LeadsToLeaf, nil_from_length}
use Rattle.mt_engine.proofs.LeafWalks.{way_of, way_to}
use Rattle.mt_engine.proofs.leaf_steps.first_of_next.Given.{Over}
use Rattle.mt_engine.proofs.leaf_steps.first_of_next.Goals.{Else-is_empty}
use Rattle.mt_engine.proofs.leaf_steps.first_of_next.Goals as goal

pub overflow_add-index : goal.overflow_add-index
overflow_add-index g c = (let t = (g.R.Rows.sheet c.args.rows.now).tree in omega (arith, c.requires.more, greatest_fits t.table.width))

pub walk_to-requires-clause-empty : goal.walk_to-requires-clause-empty
walk_to-requires-clause-empty g c = nil_from_length c.args.way.now.items (eqb-true (length c.args.way.now.items) 0 (sym c.is_empty.ensures ∙ c.if-is_empty.true))

pub walk_to-requires-clause-index : goal.walk_to-requires-clause-index
walk_to-requires-clause-index g c = omega (arith, c.requires.more)

pub unreachable-requires : goal.unreachable-requires
unreachable-requires g c = absurd (c.requires.here.some (c.in_default.ensures.none.0 refl))

pub returns-then-is_empty-clause-way : goal.returns-then-is_empty-clause-way
returns-then-is_empty-clause-way g c =
    let t = (g.R.Rows.sheet c.args.rows.now).tree in
    way_to t (c.args.here.now.leaf.max + 1) c.walk_to.new.path.items c.in-Some.first (omega (arith, c.requires.more)) c.in-Some.ensures.path c.in-Some.ensures.some

-- the way that is kept goes on

kept : (g : Over) (c : Else-is_empty g) → LeadsToLeaf (g.R.Rows.sheet c.args.rows.now).tree c.args.way.now.items c.args.here.now.leaf
kept g c = way_of _ c.args.way.now.items c.args.here.now.leaf c.requires.way (eqb-false (length c.args.way.now.items) 0 (sym c.is_empty.ensures ∙ c.if-is_empty.false))

pub leaf_behind-requires-clause-path : goal.leaf_behind-requires-clause-path
leaf_behind-requires-clause-path g c =
    let leads = kept g (goal.at.leaf_behind-requires-clause-path g c).Else-is_empty in
    (leads.index, leads.within, leads.is)

pub leaf_behind-requires-clause-some : goal.leaf_behind-requires-clause-some
leaf_behind-requires-clause-some g c = omega (arith, eqb-false (length c.args.way.now.items) 0 (sym c.is_empty.ensures ∙ c.if-is_empty.false))

pub leaf_behind-requires-clause-more : goal.leaf_behind-requires-clause-more
leaf_behind-requires-clause-more g c =
    let ends = (kept g (goal.at.leaf_behind-requires-clause-more g c).Else-is_empty).ends in
    λ same. omega (arith, c.requires.more, ends, same)

pub returns-clause-handle : goal.returns-clause-handle
returns-clause-handle g c =
    let leads = kept g (goal.at.returns-clause-handle g c).Else-is_empty in
    c.leaf_behind.ensures.handle ∙ ap (λ (n : ℕ). handle_in (g.R.Rows.sheet c.args.rows.now).tree (n + 1)) leads.ends

pub returns-clause-way : goal.returns-clause-way
returns-clause-way g c =
    let ends = (kept g (goal.at.returns-clause-way g c).Else-is_empty).ends in
    way_to (g.R.Rows.sheet c.args.rows.now).tree _ c.leaf_behind.new.path.items c.leaf_behind.result (omega (arith, c.requires.more, ends)) c.leaf_behind.ensures.path c.leaf_behind.ensures.handle

use Rattle.mt_path.proofs.Prelude.{ℕ, ◌<◌, ◌≤◌, length, arith, rules, sym, subst, PathStep, leaf_spans, IsStepOfLeaf, span_at}
use Rattle.mt_path.proofs.SameSlot.{last_is_leaf, stays}
use Rattle.mt_path.proofs.handles.stays_in.Goals as goal

pub load_last-requires-clause-leaf : goal.load_last-requires-clause-leaf
load_last-requires-clause-leaf g c =
    let t = (g.R.Rows.sheet c.args.rows.now).tree in
    let behind = c.requires.path.1 in let inside = c.requires.index in
    let some : 0 < length c.args.path.now.items = search rules in
    subst (IsStepOfLeaf t) (sym c.end_of-leaf.ensures) (last_is_leaf t c.requires.tree.0 c.requires.tree.1 c.args.path.now.items c.requires.path.0 (omega arith) c.requires.path.2 some)

pub returns-clause-stays : goal.returns-clause-stays
returns-clause-stays g c =
    let some : 0 < length c.args.path.now.items = search rules in λ same.
    let t = (g.R.Rows.sheet c.args.rows.now).tree in
    let behind = c.requires.path.1 in let inside = c.requires.index in
    let low : c.args.index ≤ c.load_last.result = search rules in
    stays t c.requires.tree.0 c.requires.tree.1 c.args.path.now.items c.requires.path.0 (omega arith) c.requires.path.2 some c.args.index inside behind
    (subst (λ (s : PathStep). c.args.index ≤ (span_at (leaf_spans t.table s) s.slot).last) c.end_of-leaf.ensures (subst (λ (n : ℕ). c.args.index ≤ n) c.load_last.ensures.last low))

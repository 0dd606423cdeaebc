use Rattle.mt_tree.proofs.Prelude.{sym, subst, OpensSmall, sheet_in, rows_whole, identity_of, pen_in}
use Rattle.mt_tree.proofs.Opening.{new_tree, open_kept, opens_small}
use Rattle.mt_tree.proofs.trees.Tree.open_over.Goals as goal

pub invariant_of-serve : goal.invariant_of-serve
invariant_of-serve c = (
  (
    c.in_ok-table.ensures.pen.1,
    open_kept c.args.shape.kind (sheet_in c.args.opening.value) c.args.shape.passes c.args.shape.calls c.args.book c.requires.idle c.requires.first (rows_whole c.args.opening.value) (pen_in c.in_ok-table.pen) (identity_of c.in_ok-table.table).shape c.args.height
        c.in_ok-table.ensures.shape c.in_ok-table.ensures.pen.2 c.requires.height,
  ),
  tt,
)

pub invariant_of-result-clause-opens : goal.invariant_of-result-clause-opens
invariant_of-result-clause-opens c = subst OpensSmall (sym c.in_ok-table.ensures.shape) (opens_small c.args.shape.kind (sheet_in c.args.opening.value) c.args.shape.passes c.args.shape.calls c.args.book c.requires.idle c.requires.first (rows_whole c.args.opening.value))

pub returns : goal.returns
returns c = new_tree _ _ c.in_ok-table.passes.items c.args.shape (sheet_in c.args.opening.value) c.in_ok-table.ensures.shape c.requires.rows c.in_ok-turn.ensures.of c.in_ok-turn.ensures.seated c.in_ok-turn.ensures.passes c.in_ok-table.ensures.passes

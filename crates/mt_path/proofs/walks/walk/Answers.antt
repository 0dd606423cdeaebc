use Rattle.mt_path.proofs.Prelude.{refl, sym, ap, ◌∙◌, subst, List, PathStep, Sheet, path_in, WalksTo}
use Rattle.mt_path.proofs.Empty.{empty_together}
use Rattle.mt_path.proofs.Ways.{empty_path}
use Rattle.mt_path.proofs.walks.walk.Goals as goal

-- the walk begins at the root
pub descend-requires-clause-way : goal.descend-requires-clause-way
descend-requires-clause-way g c =
    subst (λ (x : Sheet × List PathStep). WalksTo x.0.tree c.args.index x.1 c.in-Some.row) (λ i. (sym c.root_row.ensures.rest i, sym c.new-path.ensures i))
    (record { within = c.requires.index; front = refl; way = c.in-Some.ensures.some c.args.index c.requires.index })

pub returns-in-Some-clause-empty : goal.returns-in-Some-clause-empty
returns-in-Some-clause-empty g c =
    empty_together (g.R.Rows.sheet c.args.rows.now).tree c.requires.tree.0 c.args.index c.descend.new.path.items c.requires.tree.1 c.requires.index
    (c.descend.ensures.path ∙ ap (λ (s : Sheet). path_in s.tree.table s.tree.root c.args.index) c.root_row.ensures.rest)

pub returns-in_default-clause-path : goal.returns-in_default-clause-path
returns-in_default-clause-path g c = c.new-path.ensures ∙ sym (empty_path (g.R.Rows.sheet c.args.rows.now).tree c.args.index (c.in_default.ensures.none.0 refl))

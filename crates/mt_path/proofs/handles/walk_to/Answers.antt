use Rattle.mt_path.proofs.Prelude.{refl, sym, ◌∙◌, subst, List, PathStep, Sheet, WalksTo}
use Rattle.mt_path.proofs.Descents.{walk_reads}
use Rattle.mt_path.proofs.Ways.{empty_path}
use Rattle.mt_path.proofs.handles.walk_to.Goals as goal

-- the walk begins at the root
pub descend-found-requires-clause-way : goal.descend-found-requires-clause-way
descend-found-requires-clause-way g c =
    subst (λ (x : Sheet × List PathStep). WalksTo x.0.tree c.args.index x.1 c.in_ok-row.row) (λ i. (sym c.root_row.ensures.rest i, sym c.requires.empty i))
    (record { within = c.requires.index; front = refl; way = c.in_ok-row.ensures.some c.args.index c.requires.index })

pub returns-in_err-row-clause-path : goal.returns-in_err-row-clause-path
returns-in_err-row-clause-path g c = c.requires.empty ∙ sym (empty_path (g.R.Rows.sheet c.args.rows.now).tree c.args.index (c.in_err-row.ensures.none.0 refl))

pub returns-clause-reads : goal.returns-clause-reads
returns-clause-reads g c =
    walk_reads (g.R.Rows.sheet c.args.rows.now) (g.R.Rows.sheet c.root_row.new.rows) (g.R.Rows.sheet c.descend-found.new.rows) (g.R.Rows.sheet c.load_found.new.rows)
    c.args.index c.in_ok-row.row c.args.path.now.items c.descend-found.new.path.items (c.in_ok-row.ensures.some c.args.index c.requires.index) c.requires.empty c.root_row.ensures.rest
    c.descend-found.ensures.path c.descend-found.ensures.reads c.load_found.ensures.rest

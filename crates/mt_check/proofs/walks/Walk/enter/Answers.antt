use Rattle.mt_check.proofs.Prelude.{◌≡◌, true, refl, rules, unwrap_or, Row, names_row, depth_at, has_depth, tree_from}
use Rattle.mt_check.proofs.Entering.{entered, first_broken}
use Rattle.mt_check.proofs.walks.Walk.enter.Goals as goal

pub returns-in-Ok-clause-ok : goal.returns-in-Ok-clause-ok
returns-in-Ok-clause-ok g c =
    let t = tree_from c.args.self.now (g.R.Rows.sheet c.args.rows.now).tree in
    let visit = c.args.visit in
    let named = c.in-Some.named in
    let row : Row = record { number = named.row; kind = named.kind; items = c.check_words.new.items } in
    let names : names_row t.gapped t.rows visit.span.word ≡ true = search rules in
    let deep : has_depth (unwrap_or c.args.self.now.leaf_depth (depth_at visit.left)) visit.left named.kind ≡ true = search rules in
    entered t c.args.self.now visit named c.requires.left c.requires.depth c.in-Some.ensures.row c.in-Some.ensures.kind names deep row refl refl c.in-Ok.ensures.items c.in-Ok.ensures.kept

pub returns-in-Err-clause-err : goal.returns-in-Err-clause-err
returns-in-Err-clause-err g c =
    let t = tree_from c.args.self.now (g.R.Rows.sheet c.args.rows.now).tree in
    let visit = c.args.visit in
    let named = c.in-Some.named in
    let names : names_row t.gapped t.rows visit.span.word ≡ true = search rules in
    let deep : has_depth (unwrap_or c.args.self.now.leaf_depth (depth_at visit.left)) visit.left named.kind ≡ true = search rules in
    first_broken t c.args.self.now visit named c.requires.left c.requires.depth c.in-Some.ensures.row c.in-Some.ensures.kind names deep c.in-Err.law c.in-Err.ensures.broken

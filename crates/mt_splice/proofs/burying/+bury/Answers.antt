use Rattle.mt_splice.proofs.Prelude.{length, sym, ◌∙◌, arith, eqb-false}
use Rattle.mt_splice.proofs.Burials.{as_done, buried}
use Rattle.mt_splice.proofs.BuryingRows.{this_may, above_tree, above_on, above_may, all_windows}
use Rattle.mt_splice.proofs.burying.+bury.Goals as goal

pub bury_window-requires-clause-may : goal.bury_window-requires-clause-may
bury_window-requires-clause-may g t c = this_may c.in-Some.above.now c.requires.tree.1 (rw c.in-Some.ensures.cases.0 at c.requires.windows) (rw c.in-Some.ensures.cases.0 at c.requires.may)

pub bury-requires : goal.bury-requires
bury-requires g t c κs within =
    let on = rw c.in-Some.ensures.cases.0 at c.requires.windows in
    let may = rw c.in-Some.ensures.cases.0 at c.requires.may in
    let above = c.in-Some.above.now in
    let depth = c.decreases in
    let some = eqb-false (length above) 0 (sym c.is_empty.ensures ∙ c.if-is_empty.false) in
    let low = on.1 in
    (omega (arith, some), (within, ((c.requires.tree.0, above_tree above c.requires.tree.1 on may (buried c.bury_window.ensures)), (above_on above c.requires.tree.1 on may (buried c.bury_window.ensures), above_may above c.requires.tree.1 on may (buried c.bury_window.ensures)))))

pub returns : goal.returns
returns g t c =
    rw c.in-Some.ensures.cases.0
    (as_done (all_windows c.in-Some.above.now c.requires.tree.1 (rw c.in-Some.ensures.cases.0 at c.requires.windows) (rw c.in-Some.ensures.cases.0 at c.requires.may) (buried c.bury_window.ensures) (buried c.bury.ensures)))

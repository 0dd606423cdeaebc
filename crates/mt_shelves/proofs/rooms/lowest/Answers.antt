use Rattle.mt_shelves.proofs.Prelude.{◌≡◌, ◌+◌, ◌++◌, List, drop, get_or, sym, ap, ◌∙◌, subst, arith, Range, hole_between, holes_from, kept, low, lowest_in, greatest_of, none_found, shelf_end, holes_in, joined, shelf_start}
use Rattle.mt_shelves.proofs.HolesOnShelves.{found_low, none_low, sought_low}
use Rattle.mt_shelves.proofs.rooms.lowest.Goals as goal

pub returns-in-Some : goal.returns-in-Some
returns-in-Some c =
    found_low c.args.kind c.args.shelves.now c.args.window.size c.args.window.min c.args.window.max c.loop-shelf.first c.loop-shelf.shelf-index c.shelf-item.result c.requires.are c.loop-shelf-test.true c.loop-shelf.invariant c.in-Some.start
    (c.in-Some.ensures ∙ ap (λ (m : List Range). lowest_in (kept c.args.window.size c.args.window.min c.args.window.max (hole_between c.loop-shelf.first (shelf_start m) ++ holes_in m))) c.shelf-item.is)

pub returns-in_err-first : goal.returns-in_err-first
returns-in_err-first c =
    let none = none_found c.lowest_on.result c.in_default.not-Some ∙ (c.lowest_on.ensures ∙ ap (λ (m : List Range). lowest_in (kept c.args.window.size c.args.window.min c.args.window.max (hole_between c.loop-shelf.first (shelf_start m) ++ holes_in m))) c.shelf-item.is) in
    let end : c.extent.result.end ≡ shelf_end (get_or c.args.shelves.now c.loop-shelf.shelf-index c.shelf-item.result) = c.extent.ensures.end ∙ ap shelf_end c.shelf-item.is in
    c.from_residual.ensures ∙ none_low c.args.kind c.args.shelves.now c.args.window.size c.args.window.min c.args.window.max c.loop-shelf.first c.loop-shelf.shelf-index c.shelf-item.result c.requires.are c.loop-shelf-test.true c.loop-shelf.invariant
    (omega (arith, c.in_err-first.ensures, end)) none

pub loop-shelf-preserved : goal.loop-shelf-preserved
loop-shelf-preserved c =
    let none = none_found c.lowest_on.result c.in_default.not-Some ∙ (c.lowest_on.ensures ∙ ap (λ (m : List Range). lowest_in (kept c.args.window.size c.args.window.min c.args.window.max (hole_between c.loop-shelf.first (shelf_start m) ++ holes_in m))) c.shelf-item.is) in
    let end : c.extent.result.end ≡ shelf_end (get_or c.args.shelves.now c.loop-shelf.shelf-index c.shelf-item.result) = c.extent.ensures.end ∙ ap shelf_end c.shelf-item.is in
    subst (λ n. lowest_in (kept c.args.window.size c.args.window.min c.args.window.max (holes_from n (greatest_of c.args.kind + 1) (joined (drop (c.loop-shelf.shelf-index + 1) c.args.shelves.now)))) ≡ low c.args.kind (joined c.args.shelves.now) c.args.window.size c.args.window.min c.args.window.max)
    (sym (c.in_ok-first.ensures.1 ∙ ap (λ n. n + 1) end))
    (sought_low c.args.kind c.args.shelves.now c.args.window.size c.args.window.min c.args.window.max c.loop-shelf.first c.loop-shelf.shelf-index c.shelf-item.result c.requires.are c.loop-shelf-test.true c.loop-shelf.invariant none)

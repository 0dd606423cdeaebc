use Rattle.mt_shelves.proofs.Prelude.{◌+◌, ◌∙◌, sym, ap, highest_in, hole_between, kept, none_found, has_room}
use Rattle.mt_shelves.proofs.HolesOnShelves.{found_on_down, none_on_down}
use Rattle.mt_shelves.proofs.rooms.highest_on.Goals as goal

pub returns-then-not-may_have_room : goal.returns-then-not-may_have_room
returns-then-not-may_have_room c =
    none_on_down c.args.window.size c.args.window.min c.args.window.max c.args.last c.args.shelf.now c.extent-extent.result.room c.requires c.ranges-ranges.ensures.rise c.extent-extent.ensures.room
    (none_found c.highest_above.result c.in_default.not-Some ∙ (c.highest_above.ensures ∙ ap (λ n. highest_in c.args.window.size (kept c.args.window.size c.args.window.min c.args.window.max (hole_between (n + 1) (c.args.last + 1)))) c.extent-extent.ensures.end))
    ((λ k. has_room (sym c.extent-extent.ensures.start k) (sym c.extent-extent.ensures.end k) c.extent-extent.result.room c.args.window.size c.args.window.min c.args.window.max) ∙ (sym c.may_have_room.ensures ∙ c.if-not-may_have_room.true))

pub returns-in-Some : goal.returns-in-Some
returns-in-Some c =
    found_on_down c.args.window.size c.args.window.min c.args.window.max c.args.last c.args.shelf.now c.in-Some.start
    (c.in-Some.ensures ∙ ap (λ n. highest_in c.args.window.size (kept c.args.window.size c.args.window.min c.args.window.max (hole_between (n + 1) (c.args.last + 1)))) c.extent-extent.ensures.end)

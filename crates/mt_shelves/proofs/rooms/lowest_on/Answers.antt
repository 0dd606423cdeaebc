use Rattle.mt_shelves.proofs.Prelude.{◌∙◌, sym, ap, hole_between, kept, lowest_in, none_found, has_room}
use Rattle.mt_shelves.proofs.HolesOnShelves.{none_on}
use Rattle.mt_shelves.proofs.rooms.lowest_on.Goals as goal

pub returns-then-not-may_have_room : goal.returns-then-not-may_have_room
returns-then-not-may_have_room c =
    none_on c.args.window.size c.args.window.min c.args.window.max c.args.first c.args.shelf.now c.extent-extent.result.room c.requires c.ranges-ranges.ensures.rise c.extent-extent.ensures.room
    (none_found c.lowest_below.result c.in_default.not-Some ∙ (c.lowest_below.ensures ∙ ap (λ n. lowest_in (kept c.args.window.size c.args.window.min c.args.window.max (hole_between c.args.first n))) c.extent-extent.ensures.start))
    ((λ k. has_room (sym c.extent-extent.ensures.start k) (sym c.extent-extent.ensures.end k) c.extent-extent.result.room c.args.window.size c.args.window.min c.args.window.max) ∙ (sym c.may_have_room.ensures ∙ c.if-not-may_have_room.true))

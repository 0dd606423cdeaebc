use Rattle.mt_list.proofs.Prelude.{◌≡◌, Some, ap, sym, ◌∙◌, slice_get, place_below, up_to}
use Rattle.mt_list.proofs.EraseAtPlace.{without_at_place}
use Rattle.mt_list.proofs.edits.erase.Goals as goal

-- what is left once the range at the place is removed
pub returns-clause-some : goal.returns-clause-some
returns-clause-some c =
    let m = c.args.ranges.now.items in
    let place = c.place_below-place.result in
    let at : place ≡ place_below m c.args.index = c.place_below-place.ensures ∙ ap (λ ranges. place_below ranges c.args.index) c.deref.ensures.value in
    let found : c.range_at.result ≡ slice_get m place = c.range_at.ensures ∙ ap (λ ranges. slice_get ranges place) c.deref-2.ensures.value in
    let held : up_to c.args.index (slice_get m place) ≡ Some c.in_ok-range.range = sym (c.up_to.ensures ∙ ap (up_to c.args.index) found) ∙ c.in_ok-range.was in
    c.remove.ensures.items ∙ without_at_place m place c.args.index c.in_ok-range.range c.requires at held

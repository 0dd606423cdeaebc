-- What the proofs beside this file take from the toolchain, from the crates below and from this crate's definitions, under one name. Declares nothing.
pub use Rattle.std.proofs.Common.{Bool, IfNone, List, None, OnSome, Option, Some, [], add-one, ap, append_assoc, arith, drop, false, filter, find, get_or, inl, inr, insert, is_some, length, length-append, map, max, min, nat_le, nat_lt, not, refl, remove, set, subst, suc, sym, take, true, zero, ℕ, ◌&&◌, ◌++◌, ◌+◌, ◌-◌, ◌<◌, ◌==◌, ◌^◌, ◌∙◌, ◌∷◌, ◌≡◌, ◌≤◌}
pub use Rattle.mt_base.proofs.Std.{AllByRecursion, and_left, and_right, append-nil, cases_Bool, common_steps, cond_both, drop-append-add, drop-drop, drop-set-lt, drop_all, drop_more, eqb-false, eqb-true, filter-append, flat_map-append, get_or_default, le-ltb, leb-false, length-map, length-take-le, lt-leb, lt-ltb, ltb-false, ltb-true, map-append, slice_get, slice_range, take-append-drop, take-append_seam, take-set, take_more, take_more_set}
pub use Rattle.mt_base.proofs.Lemmas.{IsMapFrom-lower, greatest_fits, over_is_map}
pub use Rattle.mt_base.specs.Names.{Hole, IsMap, IsMapFrom, answer, clip, cut_above, cut_below, first_range, fits, greatest_of, high, highest_in, holding, holds, hole_between, holes_from, kept, kind_width, last_range, low, lowest_in, over, part_stored, parts_above, parts_below, without}
pub use Rattle.mt_base.specs.declared.calls.Query.{Query}
pub use Rattle.mt_base.specs.declared.calls.Query.TheVariants.{Find, Load, Next, Prev, Rfind}
pub use Rattle.mt_base.specs.declared.kinds.Kind.{Kind}
pub use Rattle.mt_base.specs.declared.ranges.Range.{Range}
pub use Rattle.mt_list.proofs.EraseAtPlace.{without_above}
pub use Rattle.mt_list.proofs.HolesSought.{IsMapFrom-front, get_behind, highest_back, highest_before, kept-append, lowest_behind, lowest_front, no_hole, none_found}
pub use Rattle.mt_list.proofs.MapsKept.{erased_is_map}
pub use Rattle.mt_list.proofs.StoreAtPlaces.{all_parts_above, no_part_below}
pub use Rattle.mt_list.specs.ListMap.{Contents}
pub use Rattle.mt_shelves.specs.Shelves.{AllFilled, AreHolesUpTo, AreRising, AreShelves, BeginAbove, EndBelow, IsBrought, IsShelfMap, LooksDown, LooksUp, begins_above, ends_below, has_room, holes_after, holes_in, joined, shelf_end, shelf_start}

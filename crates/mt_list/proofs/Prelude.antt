-- What the proofs beside this file take from the toolchain, from the crates below and from this crate's definitions, under one name. Declares nothing.
pub use Rattle.std.proofs.Common.{Bool, IfNone, IfSome, List, None, OnSome, Option, Some, [], ap, append-nil, append_assoc, arith, drop, drop-cons, false, filter, get_or, inl, inr, insert, is_some, length, length-append, map, max, min, nat_le, nat_lt, not, option_map, refl, remove, rules, subst, suc, sym, take, true, vec_capacity, vec_len, zero, ℕ, ◌&&◌, ◌++◌, ◌+◌, ◌-◌, ◌<◌, ◌==◌, ◌^◌, ◌∙◌, ◌∷◌, ◌≡◌, ◌≤◌, ◌⊎◌}
pub use Rattle.mt_base.proofs.Std.{AllByRecursion, IsPartitionPoint-from_clause, IsPartitionedBy-leb, IsPartitionedBy-ltb, and_left, and_right, cases_Bool, cases_lt, cond_both, cond_some, copy_within, drop-drop, drop_at, filter-append, get_or_default, le-leb, le-ltb, leb-false, leb-true, length-drop, length-take, length-take-le, list_any, lt-leb, lt-ltb, ltb-false, ltb-true, map-append, or_parts, prefix_len, prefix_len_is, slice_get, take-append-drop, take-append-le, take-take, take_all, take_at, take_more, take_rest}
pub use Rattle.std.specs.List.Sorted.{IsNonDecreasingBy, IsPartitionPoint}
pub use Rattle.mt_base.proofs.Lemmas.{greatest_fits, high_is_room, low_is_room, over_is_map, stored_area, without_is_map}
pub use Rattle.mt_base.specs.Names.{Hole, IsMade, IsMap, IsMapFrom, Limits, acted, clip, cut_below, first_range, fits, greatest_of, high, highest_in, holding, holds, hole_between, holes_from, is_bad_area, is_held, kept, kind_width, last_range, low, lowest_in, one_call_more, over, overlaps, part_stored, parts_above, parts_below, without}
pub use Rattle.mt_base.specs.declared.calls.Call.{Call}
pub use Rattle.mt_base.specs.declared.kinds.Kind.{Kind}
pub use Rattle.mt_base.specs.declared.ranges.Range.{Range}
pub use Rattle.mt_base.specs.declared.replies.Reply.{Reply}
pub use Rattle.mt_base.specs.declared.replies.Reply.TheVariants.{NoNodes}
pub use Rattle.mt_list.specs.ListMap.{Contents}
pub use Rattle.mt_list.specs.Places.{down_to, last_of, piece_above, piece_below, place_above, place_below, up_to}
pub use Rattle.mt_list.specs.Plays.{CallsLeadTo, is_done}

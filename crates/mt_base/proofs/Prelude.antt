-- What the proofs beside this file take from the toolchain, from the crates below and from this crate's definitions, under one name. Declares nothing.
pub use Rattle.std.proofs.Common.{Bool, IfSome, IsPermutation, List, None, Option, Some, [], ap, append-nil, append_assoc, arith, cond, false, filter, find, fold, if◌then◌else◌, inl, inr, is_some, length, length-append, map, max, min, nat_le, nat_lt, not, option_map, refl, subst, suc, sym, take, true, zero, ℕ, ◌&&◌, ◌*◌, ◌++◌, ◌+◌, ◌-◌, ◌/◌, ◌<◌, ◌==◌, ◌^◌, ◌||◌, ◌↔◌, ◌∙◌, ◌∷◌, ◌≡◌, ◌≢◌, ◌≤◌, ◌⊎◌}
pub use Rattle.std.proofs.lemmas.Bool.{and_left, and_parts, and_right, cases_Bool, cases_lt, cond_both, eqb-false, eqb-true, le-leb, le-ltb, leb-false, leb-true, lt-leb, lt-ltb, ltb-false, ltb-true, or_parts}
pub use Rattle.std.proofs.lemmas.List.Elements.{recursion_from_All}
pub use Rattle.std.proofs.lemmas.List.Sorted.{IsPermutation-append_right, IsPermutation-cons, IsPermutation-middle, IsPermutation-refl, IsPermutation-sym, IsPermutation-trans}
pub use Rattle.std.specs.List.{AllByRecursion, flat_map, list_any, range_with_len, slice_get}
pub use Rattle.mt_base.specs.Call.{acted, answer, erased, finds_room, found, is_bad_area, is_invalid, is_no_area, placed, replied}
pub use Rattle.mt_base.specs.Entry.{reserved}
pub use Rattle.mt_base.specs.History.{AreLegalFrom, History, IsAnswered, IsLegal, Record, limits_after, map_after, map_at, map_by_reply}
pub use Rattle.mt_base.specs.Holes.{Hole, IsRoom, clip, fits, high, highest_in, hole_between, holes_from, holes_to, kept, low, lowest_in}
pub use Rattle.mt_base.specs.Map.{IsMap, IsMapFrom, cut_above, cut_below, first_met, first_range, holding, holds, is_held, last_range, over, overlaps, part_stored, parts_above, parts_below, without}
pub use Rattle.mt_base.specs.Nodes.{IsShort, Limits, Wants}
pub use Rattle.mt_base.specs.Passes.{Begins, Grows, IsSettled, Learned, Pass, Read, Saw, Wrote, holder_of, places, places_from}
pub use Rattle.mt_base.specs.Width.{columns, deepest, greatest, greatest_of, most_rows, most_taken}
pub use Rattle.mt_base.specs.declared.calls.Call.{Call}
pub use Rattle.mt_base.specs.declared.calls.Call.TheVariants.{Alloc, Clear, Erase, Gap, Insert, Ralloc, Rgap, Store, StorePre}
pub use Rattle.mt_base.specs.declared.calls.Query.{Query}
pub use Rattle.mt_base.specs.declared.calls.Query.TheVariants.{Find, Next, Prev, Rfind}
pub use Rattle.mt_base.specs.declared.kinds.Kind.{Kind}
pub use Rattle.mt_base.specs.declared.ranges.Range.{Range}
pub use Rattle.mt_base.specs.declared.replies.Holder.{Holder}
pub use Rattle.mt_base.specs.declared.replies.Reply.{Reply}
pub use Rattle.mt_base.specs.declared.replies.Shortage.{Shortage}
pub use Rattle.mt_base.specs.declared.widths.Width.{Width}
pub use Rattle.mt_base.specs.declared.widths.Width.TheVariants.{Long, Short}

-- What the proofs beside this file take from the toolchain, from the crates below and from this crate's definitions, under one name. Declares nothing.
pub use Rattle.std.proofs.Common.{All, Bool, IsTrue, List, None, Option, Some, [], ap, append-nil, append_assoc, arith, drop, false, filter, get_or-set_other, if◌then◌else◌, inl, inr, length, length-append, map, max, min, nat_le, refl, rules, slice_index, slice_index_or, slice_set, subst, suc, sym, take, true, zero, ℕ, ⊎_elim, ◌&&◌, ◌*◌, ◌++◌, ◌+◌, ◌-◌, ◌<◌, ◌==◌, ◌^◌, ◌∙◌, ◌∷◌, ◌≡◌, ◌≢◌, ◌≤◌, ◌⊎◌}
pub use Rattle.mt_base.proofs.Std.{All-cons, All-nil, AllByRecursion, cases_Bool, cases_eq, eqb-true, filter-append, flat_map, flat_map-append, le-ltb, leb-false, leb-true, lt-leb, lt-ltb, map-append, mul-le-mul_left, slice_get, take-append-drop, take_more}
pub use Rattle.std.specs.Option.{IfSome, is_some, option_map, option_or}
pub use Rattle.mt_base.proofs.Lemmas.{all_join, greatest_fits}
pub use Rattle.mt_layout.proofs.Lemmas.{IsItem, Names-named_kind, all_gaps_of, apart-append, ends, few_items, few_slots_of, fills_le, gap_at-none, gap_at-some, gap_within, get_or-padded, goes_on, item_or, layout_of, no_gaps_of, one_row_more, same_place, sizes, slots_of-columns, some_columns, some_gaps_of, some_slots_of, used, used-gap}
pub use Rattle.mt_rows.proofs.Lemmas.{AreGapsAt, Filled, IsOneOf, OnLevel, Shared, all_map, all_spans_stay, covers_it, expand-append, expand_fills, expand_shared, gaps_read, height_by_depth, inner_no_leaf, inner_not_named, levels_at, levels_back, levels_from, levels_front, levels_here, levels_join, levels_lower, levels_map, levels_none, levels_shared, longest_below-append, longest_in-append, longest_none, longest_shared, on_level_law, on_level_reached, one_of_parts, one_place, other_gap, others_keep, ranges_by_depth, reached_number, reads_on, row_most, rows_filled, still_stands, this_gap, times_reached, times_shared}
pub use Rattle.mt_rows.specs.Names.{Apart, GapLawBut, GapLawBy, GapsFrom, GapsFromBut, HasGaps, HasWords, IsLawful, IsRow, IsTended, IsTreeOf, IsWhole, KeepsGaps, OnlyReads, Width, clip, deepest, expand, first_row, fits, high_to, hole_between, hole_length, holes_from, inner_of, is_row_of, items_from, leaf_range, level, loaded, low_to, map_in, map_of, row_words, spans_by, spans_from, tended, times, top_of}
pub use Rattle.mt_path.proofs.Kept.{place_kept, tree_kept}
pub use Rattle.mt_path.proofs.Loads.{last_loads, no_reads, one_read, reads_more, reads_up}
pub use Rattle.mt_path.proofs.Places.{At, at_once, at_parts, at_slot, at_within}
pub use Rattle.mt_path.proofs.Steps.{Leads, child_at, child_leads, path_of_inner, path_of_leaf, row_here, row_next}
pub use Rattle.mt_path.proofs.TreePaths.{child, lawful, levels, place, reached, root_leads, row_of, rows_at, rows_fill, slot_used, step, step_of, top_row}
pub use Rattle.mt_path.proofs.Ways.{row_on_top, some_root}
pub use Rattle.mt_path.specs.Paths.{below, loads_at, loads_on, no_step, path_of, slot_for, step_in}
pub use Rattle.mt_path.specs.Walks.{EntersLeaf}
pub use Rattle.mt_path.specs.declared.handles.Handle.{Handle}
pub use Rattle.mt_path.specs.Handles.{last_step}
pub use Rattle.mt_gap.specs.Below.{child_hole, leaf_hole}
pub use Rattle.mt_gap.specs.Children.{children_below, children_by, children_from, children_in, root_child, row_children}
pub use Rattle.mt_gap.specs.Descents.{AreLeaves, Arrives, IsGapped, LoadedUpTo, MayLoad, Visited, picked}
unfoldable pub use Rattle.mt_gap.specs.Descents.{place_in}
pub use Rattle.mt_gap.specs.Mended.{AreRight, HasMendedRows, IsAtLevel, IsMendedSlot}
pub use Rattle.mt_gap.specs.Mending.{GapLawBeside, IsAlong, IsGapIn, IsGapOn, IsLiveRow, IsMended, IsToldWay, IsWay, KeepsOtherWords, KeepsWordsBut, MayMend, MayMendGaps, MayTell, OnlyWords, longest_gap, most_gap, told_by}
pub use Rattle.mt_gap.specs.Narrow.{has_sure, inside, may_have, meets, narrow, narrow_up, next_up}
pub use Rattle.mt_gap.specs.Prelude.{Fills, GapLaw, Gapped, Hole, Inner, IsPlace, Item, Kind, Leaf, Levels, Live, LiveAreReached, MayTend, NoneBuried, PathStep, ReadsUpTo, Rooted, RowKind, SameSpans, Sheet, Span, Stands, Table, Tree, base_of, column, columns, covers, gap_column, gaps_of, greatest, handle_in, height_in, highest_in, holes_to, is_buried, items_at, kept, kind_on, life_of, longest_below, longest_in, lowest_in, map_by, named_kind, path_in, pivot_column, root_of, root_span, row_in, row_on, row_spans, slots_of, span_at, spans_in, step_at, tree_on, with_word, word_at}
pub use Rattle.mt_gap.specs.Slots.{child_in, gap_in, last_in, word_in}
pub use Rattle.mt_gap.specs.Ways.{AreAsked, EndsInLeaf, GoesOneWay, HasRoomFor, IsAreaAt, IsOneWay, IsSearchedBelow, IsWayTo, StandsInSlot, asked_for, asked_from, ends_where, ends_with, forgets_where, into_one_more, pick_for, sought_in, sought_to, with_child, with_room, with_room_up}
pub use Rattle.mt_gap.specs.declared.children.Child.{Child}
pub use Rattle.mt_gap.specs.declared.ways.Below.{Below}
pub use Rattle.mt_gap.specs.declared.ways.Side.{Side}
pub use Rattle.mt_gap.specs.declared.windows.Window.{Window}

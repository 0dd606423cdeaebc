-- What the proofs beside this file take from the toolchain, from the crates below and from this crate's definitions, under one name. Declares nothing.
pub use Rattle.std.proofs.Common.{Bool, IfOk, IfSome, IsNone, IsSome, IsTrue, List, None, Option, Some, [], ap, append-nil, append_assoc, arith, drop, eq-eqb, false, filter, get_or, get_or-set_other, if◌then◌else◌, inl, inr, is_some, length, length-append, map, max, min, nat_le, nat_lt, ne_eqb, not, option_map, refl, rules, slice_index, slice_index_or, slice_set, subst, suc, sym, take, true, zero, ℕ, ⊎_elim, ◌&&◌, ◌*◌, ◌++◌, ◌+◌, ◌-◌, ◌<◌, ◌==◌, ◌^◌, ◌||◌, ◌↔◌, ◌∙◌, ◌∷◌, ◌≡◌, ◌≢◌, ◌≤◌, ◌⊎◌}
pub use Rattle.mt_base.proofs.Std.{All, All-append, All-contains, All-contains_itself, All-head, All-map, All-nil, All-push, All-tail, All-weaker, AllByRecursion, AllPairs, Contains, Contains-append_cases, Contains-append_left, Contains-append_right, and_left, and_parts, and_right, cases_Bool, cases_eq, cases_lt, cond_both, cond_some, drop_all, eqb-false, eqb-true, err_from_is_err_and, false≢true, filter_passes, flat_map, get_or-append-add, get_or-map, get_or_append_left, le-leb, le-ltb, leb-false, leb-true, length-drop, length-map, length-set, length-take-le, length_push, lt-leb, lt-ltb, ltb-true, map-append, nil_from_length, or_parts, pow-succ', prefix_len, slice_get, slice_get_within, take_all, take_min, take_more}
pub use Rattle.mt_base.proofs.Lemmas.{all_back, all_front, all_join, all_map, entry_inside, greatest_fits, high_is_room, is_area, is_held_where_met, low_is_room, valid_entry, valid_order, valid_within}
pub use Rattle.mt_layout.proofs.Lemmas.{apart-append, few_slots_of, fills_le, full_before_hole, full_behind_hole, gap_within, length-spans_from, other_column, other_place, slot_above, slot_within, some_columns, some_slots_of}
pub use Rattle.mt_rows.proofs.Lemmas.{Filled, OnLevel, Shared, all_both, expand-append, expand_fills, expand_shared, few_rows, height_by_depth, inner_not_named, level_next, level_rows, levels_back, levels_both, levels_front, levels_map, levels_pair, levels_shared, levels_upper, longest_in-append, many_ranges, map_of_shared, map_of_split, may_publish, on_level, on_level_law, one_of_parts, one_place, ranges_by_depth, reads_on, row_most, row_on_each_level, same_tree, some_least, times_shared, upper_both, upper_shared}
pub use Rattle.mt_rows.specs.Names.{Apart, BeginsFull, EndsFull, Fills, GapLaw, GapLawBy, GapsFrom, HasGaps, Holder, Inner, IsFoundShort, IsHeldBack, IsLawful, IsMade, IsMap, IsMapFrom, IsRoom, IsRow, IsSlotAt, IsTended, IsTree, IsWhole, Levels, MayPublish, Next, NoNodes, OnlyReads, ParentLaw, Prev, Published, ReplacesEntry, Rfind, RowKind, SameSpans, Stands, Table, Told, Tree, base_of, begun, by_kind, column, cut_below, deepest, erased, expand, finds_room, first_range, found, gap_column, gaps_of, greatest_of, holds, hole_length, inner_of, is_bad_area, is_invalid, is_no_area, is_row_of, items_at, items_from, kind_on, kind_width, leaf_range, level, life_after, longest_below, longest_in, map_in, named_kind, named_row, new_sheet, one_call_more, one_more, over, overlaps, part_stored, parts_above, parts_below, pivot_column, placed, reached_in, replied, reserved, root_of, root_span, row_in, spans_by, spans_from, spans_in, tally, top_of, tree_on, without}
pub use Rattle.mt_rows.specs.declared.rows.Life.TheVariants.{Draft, Live, New}
pub use Rattle.mt_rows.specs.declared.rows.Scan.{Scan}
pub use Rattle.mt_free.proofs.Books.{book, first_due, none_due, reclaim_leaves_book}
pub use Rattle.mt_free.proofs.StillOut.{out_after_reclaim}
pub use Rattle.mt_free.specs.Book.{IsBook, IsOut, IsRowOf, held_rows, new_book, rows_down, still_held}
pub use Rattle.mt_path.proofs.HandleSteps.{inner_behind, slot_fits}
pub use Rattle.mt_path.proofs.LeafSlots.{stands_in}
pub use Rattle.mt_path.proofs.Loads.{loads_in-append, no_reads, reads_more, reads_up, rose_up}
pub use Rattle.mt_path.proofs.Places.{At, at_get, at_parts, at_within, slot_behind, slot_here}
pub use Rattle.mt_path.proofs.Steps.{path_of_none, row_next}
pub use Rattle.mt_path.proofs.TreePaths.{lawful, levels, place, row_of, rows_at, rows_fill, slot_used, step, step_of, top_row}
pub use Rattle.mt_path.proofs.Ways.{row_on_top, some_root, some_tree}
pub use Rattle.mt_path.specs.Handles.{handle_of, last_step, leaf_spans}
pub use Rattle.mt_path.specs.Paths.{below, loads_in, loads_on, slot_for, span_at, step_in}
unfoldable pub use Rattle.mt_path.specs.Paths.{path_of}
pub use Rattle.mt_path.specs.Batches.{words_in}
pub use Rattle.mt_gap.proofs.Mending.{child_tells}
pub use Rattle.mt_gap.specs.Descents.{IsGapped}
pub use Rattle.mt_gap.specs.Mending.{IsAlong, IsToldWay, IsWay, KeepsWordsBut}
pub use Rattle.mt_splice.proofs.Fresh.{fresh_is_ready}
pub use Rattle.mt_splice.proofs.LiveRows.{live_is_reached}
pub use Rattle.mt_splice.proofs.Widens.{two_least}
pub use Rattle.mt_splice.specs.Kept.{IsBookOf, IsUnheld}
pub use Rattle.mt_splice.specs.Splice.{IsSpliced, MayClear, MayReplace, TellsBelow, TellsGapAt, WasPublishedAt}
pub use Rattle.mt_engine.specs.Areas.{allocation, search, start_to}
pub use Rattle.mt_engine.specs.Batches.{PutSteps, Stepped, entries_at, entry_or_zero, found_then, put_first, steps_by}
unfoldable pub use Rattle.mt_engine.specs.Batches.{steps_from}
pub use Rattle.mt_engine.specs.Engine.{ChangesEntry, DidOrLacked, EndsAnswered, IsApplied, IsCarriedOut, IsEnded, IsEngineState, IsIdle, IsInCall, IsShortFor, LoadsItsWay, OnlySearches, OnlySought, Parts, Replaces, StoresExactly, TellsBook, TookRows, is_refusal, most_searched}
pub use Rattle.mt_engine.specs.Heights.{HasHeight, IsMeasured, SameHeight, is_root}
pub use Rattle.mt_engine.specs.Here.{IsHereAt, IsHereIf}
pub use Rattle.mt_engine.specs.MapSpans.{IsSpanAt, range_of}
pub use Rattle.mt_engine.specs.Mends.{IsMendedAt, IsPlaceOfLeaf, MayMendAt, WasWay}
pub use Rattle.mt_engine.specs.Nearest.{nearest_from, nearest_up_to}
pub use Rattle.mt_engine.specs.Plans.{IsMet, IsPlan, IsSearched, IsStoreOf, IsStorePlan, is_range_met}
pub use Rattle.mt_engine.specs.Prelude.{Alloc, Book, Call, Clear, Dead, Erase, Find, Gap, Gapped, Handle, HasParents, StampedRow, Insert, IsHandleOf, IsLawfulOf, IsReached, IsRealShortage, IsRefused, IsScan, IsShort, IsStoreBy, IsTreeOf, Kind, Leaf, Life, LiveAreReached, Load, MayFinish, OnlyWords, PathStep, Place, Ralloc, Range, ReadsUpTo, Reply, Rgap, Root, Rooted, RoseUpTo, Sheet, Shortage, Slot, Span, Store, StorePre, Wants, WasScanned, Width, acted, after_reclaim, answer, columns, finished, first_met, first_row, greatest, handle_in, height_in, holding, is_exact_store, is_held, is_reached, last_of, leaf_in, life_of, limits_of, live_count, map_by, most_taken, path_in, place_above, place_below, scanned, slot_column, slots_of, step_at, tree_as, with_record, with_word, word_at}
pub use Rattle.mt_engine.specs.Prepared.{IsPrestored}
pub use Rattle.mt_engine.specs.RangeWalks.{IsWayOrNone, LeadsToLeaf, StepsWithin, WalksFrom, found_from, index_behind, range_at, walk_after}
pub use Rattle.mt_engine.specs.Rooms.{HasRoom, IsScanned, IsShortOf}
pub use Rattle.mt_engine.specs.StoreBy.{IsDoneBy, IsExactly}
pub use Rattle.mt_engine.specs.Stores.{IsDoneByStore, is_by_rows, wants_by}
pub use Rattle.mt_engine.specs.declared.areas.Sought.{Sought}
pub use Rattle.mt_engine.specs.declared.areas.Sought.TheVariants.{Highest, Lowest}
pub use Rattle.mt_engine.specs.declared.plans.Plan.{Plan}
pub use Rattle.mt_engine.specs.declared.plans.Plan.TheVariants.{Nothing}
pub use Rattle.mt_engine.specs.declared.range_walk.RangeWalk.{RangeWalk}
pub use Rattle.mt_engine.specs.declared.store_by.StoreBy.{StoreBy}
pub use Rattle.mt_engine.specs.declared.store_by.StoreBy.TheVariants.{NewRows, NoWord, OneWord}
pub use Rattle.mt_engine.specs.declared.store_by.Write.{Write}
pub use Rattle.mt_list.proofs.EraseAtPlace.{without_above}
pub use Rattle.mt_list.proofs.HoldingAtPlace.{holding_at_place}
pub use Rattle.mt_list.proofs.QueriesAtPlaces.{first_above_place, first_from_place, last_below_place, last_up_to_place}
pub use Rattle.mt_list.proofs.StoreAtPlaces.{all_parts_above, no_part_below}
pub use Rattle.mt_list.proofs.StoresBeside.{Outside, outside_hole, store_behind, store_none_beside, stored_holds, stored_some, stops_below}
pub use Rattle.mt_list.specs.Places.{down_to, up_to}

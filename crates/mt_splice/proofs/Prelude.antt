-- What the proofs beside this file take from the toolchain, from the crates below and from this crate's definitions, under one name. Declares nothing.
pub use Rattle.std.proofs.Common.{All, Any, Bool, Contains, IsSome, List, None, Option, Some, [], ap, append-nil, append_assoc, arith, cond, drop, eq-eqb, false, fold, get_or, get_or-set_other, get_or-set_same, if◌then◌else◌, inl, inr, is_some, length, length-append, length-drop, length-set, length-take, length-take-le, map, max, nat_le, nat_lt, ne_eqb, refl, replicate, rules, set, slice_index, slice_index_or, slice_set, subst, suc, sym, take, take-append-drop, true, zero, zero-add, ℕ, ⊎_elim, ◌&&◌, ◌*◌, ◌++◌, ◌+◌, ◌-◌, ◌<◌, ◌==◌, ◌^◌, ◌||◌, ◌↔◌, ◌∙◌, ◌∷◌, ◌≡◌, ◌≢◌, ◌≤◌, ◌⊎◌}
pub use Rattle.std.proofs.Math.ListN.{drop_of_length-le}
pub use Rattle.std.proofs.Math.Seq.{drop-append-add, drop-append_seam, drop-drop, take-append_seam, take-length, take-nil}
pub use Rattle.mt_base.proofs.Std.{All-append, All-contains, All-from_recursion, All-map, All-nil, All-push, All-weaker, AllByRecursion, AllPairs, Contains-append_cases, Contains-append_left, Contains-append_right, and_parts, cases_Bool, cases_eq, cases_lt, common_steps, drop-map, drop-take, drop_all, drop_more, eqb-false, eqb-true, filter, flat_map, flat_map-append, get_or-append-add, get_or-drop, get_or-take, get_or_append_left, get_or_default, le-leb, le-ltb, leb-false, length-map, length-prefix_len, lt-leb, lt-ltb, ltb-false, ltb-true, map-append, map_push, prefix_len, slice_get, slice_get_within, take-map, take-take, take_all}
pub use Rattle.std.specs.Bool.{OnTrue}
pub use denote.Enum.Bare.{differs_false, same_false, same_true}
pub use Rattle.mt_base.proofs.Lemmas.{all_back, all_front, all_join, all_map, few_columns, greatest_fits}
pub use Rattle.mt_layout.proofs.Lemmas.{Holds, IsItem, Names-named_kind, after, after-append, after_some, apart_anywhere, apart_back, apart_front, ends, few_items, fills-append, fills_after, fills_end, fills_items, fills_le, fills_parts, fills_rise, fills_split, full-append, full_back, goes_on, last_ends, layout_of, length-spans_from, named_kind-name_at, no_gaps-cons, no_gaps_of, none_filled, other_place, place_within, reads_back, rise_from_zero, row_in-name_at, row_within, row_words-hold, same_items, sizes, slot_above, slot_within, slots_of-columns, some_columns, some_filled, some_gaps_of, some_least, spans-append, spans-drop, spans-take, two_hold_an_entry}
pub use Rattle.mt_rows.proofs.Lemmas.{AreGapsAt, Filled, Implies, IsOneOf, OnLevel, Shared, all_both, all_expand, all_of_each, all_one_of, below_on_level, covers_it, expand-append, expand_fills, expand_shared, gaps_read, height_by_depth, height_is, here_le, inner_no_leaf, items_at-put, leaf_between, leaf_low, level_is_below, level_next, level_rows, level_shared, levels_at, levels_back, levels_both, levels_from, levels_front, levels_here, levels_join, levels_lower, levels_map, levels_pair, levels_shared, levels_upper, longest_below-append, longest_none, longest_shared, map_of_shared, map_of_split, nine_levels, on_level_law, on_level_reached, once_in, one_of_either, one_of_expand, one_of_get, one_of_left, one_of_parts, one_of_right, one_place, over_between, published_rows, published_width, put_item, ranges_by_depth, reads_on, row_most, same_spans, same_tree, stands_at, stays_in_place, tally-append, tally_place, tally_some, times_in_once, times_reached, times_shared, times_split, upper_both, upper_more, upper_shared}
pub use Rattle.mt_rows.proofs.RowLaws.{name_some, others_keep, row_keeps, row_put, slot_fits}
pub use Rattle.mt_rows.specs.Names.{AreDrafted, BeginsFull, ChangesRows, EntryLaw, FitRow, GapLawBut, GapLawButBy, GapLawBy, GapsFrom, GapsFromBut, HasDied, HasWords, HoleLaw, IsKnown, IsLawful, IsPlaceToPublish, IsSlotOf, IsTended, IsTree, KeepsPlace, MayPublish, MayTend, NoGaps, ParentsFrom, Published, SameHoles, SameSpans, covers, covers_all, deepest, gap_at, gap_column, greatest_gap, inner_kind, item_at, items_from, items_in, least_of_root, life_after, loaded, longest_hole, longest_in, map_in, most_rows, most_taken, named_kind, new_sheet, one_if, padded_to, pivot_column, reached_in, row_spans, run_room, spans_by, tended, tree_on, with_child, with_slot, with_word, words_in}
pub use Rattle.mt_free.proofs.Books.{book, retire_leaves_book, take_leaves_book}
pub use Rattle.mt_free.proofs.Rows.{AreApart}
pub use Rattle.mt_free.proofs.StillOut.{out_after_retire}
pub use Rattle.mt_free.specs.Book.{held_rows, live_count, new_book, rows_down}
pub use Rattle.mt_leaf.proofs.Counts.{stored_two, two_short, two_to_a_hole}
pub use Rattle.mt_leaf.proofs.EditSteps.{after-items_below, item_stored, items_above-spans, items_below-spans}
pub use Rattle.mt_leaf.proofs.Holes.{ends_joined, full_unless_hole, no_hole_ends}
pub use Rattle.mt_leaf.proofs.Joined.{apart_joined, fills_joined, length_joined, length_joins, ranges_joined}
pub use Rattle.mt_leaf.proofs.Pushes.{pushed_onto}
pub use Rattle.mt_leaf.proofs.Stored.{fills_edited, length_edited, ranges_edited, stored_between}
pub use Rattle.mt_leaf.specs.Cuts.{ArePieces, IsPiece, word_of}
pub use Rattle.mt_leaf.specs.Edits.{ends_with_hole, holes_joined, join, span_stored, spans_above, spans_below, stored}
pub use Rattle.mt_leaf.specs.Places.{cut_item, first_of, items_below, slot_reaching}
pub use Rattle.mt_path.proofs.Empty.{empty_together}
pub use Rattle.mt_path.proofs.Places.{At, at_get, at_once, at_within}
pub use Rattle.mt_path.proofs.Steps.{Leads, child_at, child_leads, path_of_inner, path_of_leaf, path_of_none, row_here, row_next}
pub use Rattle.mt_path.proofs.TreePaths.{child, inside_agree, lawful, levels, next_row, place, right_begins, root_leads, rooted, row_before, row_of, rows_fill, same_row, slot_used, step, step_of, top_row}
pub use Rattle.mt_path.proofs.Ways.{root_named, row_on_top, some_root, some_tree}
pub use Rattle.mt_path.specs.Paths.{below, path_of, span_at}
unfoldable pub use Rattle.mt_path.specs.Paths.{row_on}
pub use Rattle.mt_splice.specs.Fewest.{AreFewestOf, FewestBelow, IsCutOf}
pub use Rattle.mt_splice.specs.Kept.{IsBookOf, IsConsistent, IsUnheld, IsUnpublished}
pub use Rattle.mt_splice.specs.Prelude.{Apart, Book, Call, Dead, Draft, EndsFull, Fills, GapLaw, Gapped, HasGapsBut, StampedRow, Inner, IsBelow, IsBook, IsFree, IsLawfulOf, IsOut, IsPlace, IsReached, IsRow, IsRowOf, IsSlotAt, IsToldKind, IsTreeOf, IsWhole, Item, KeepsGaps, Kind, Leaf, Levels, Life, Live, LiveAreReached, MayBury, New, NoneBuried, OnlyReads, PathStep, Place, Range, Reply, RiseFrom, Root, Rooted, RowKind, SameColumns, Sheet, Slot, Span, Stands, StandsAt, Table, Tree, Width, acted, after_bury, after_retire, base_of, column, columns, dead_mark, edited, end_of, expand, finds_room, first_row, gaps_of, greatest, height_in, inner_of, is_buried, is_reached, is_row_of, items_at, kind_on, kind_width, last_step, leaf_range, leaf_spans, least_items, least_of, level, life_of, longest_below, map_by, map_of, name_at, named_row, over, parent_at, path_in, reserved, root_of, root_span, row_in, row_words, slot_column, slot_for, slots_of, spans_from, spans_in, starting, step_at, step_in, tally, times, top_of, tree_as, with_joined, with_published, with_record, word_at}
pub use Rattle.mt_splice.specs.Splice.{HasFewest, HasParents, IsBooked, IsSpliced, MayClear, MayReplace, MaySplice, TellsBelow, TellsGapAt, WasPublishedAt, is_unreached, region_of}
pub use Rattle.mt_splice.specs.declared.burying.Child.{Child}
pub use Rattle.mt_splice.specs.declared.climbing.Climb.{Climb}
pub use Rattle.mt_splice.specs.declared.climbing.Top.{Top}
pub use Rattle.mt_splice.specs.declared.decisions.Next.{Next}
pub use Rattle.mt_splice.specs.declared.decisions.Next.TheVariants.{Empty, RootAbove, Up}
pub use Rattle.mt_splice.specs.declared.drafting.Head.{Head}
pub use Rattle.mt_splice.specs.declared.ways.Window.{Window}
pub use Rattle.mt_splice.specs.declared.writes.NewRow.{NewRow}
pub use Rattle.mt_splice.specs.steps.Burials.{AreWindowsOn, EachInTurn, IsChildOn, IsSlotOfChild, IsStretchOn, IsWindowOn, LeadsTo, MayBeBuried, MayBeBuriedInTurn, after_burials, after_retirals, numbers_between, numbers_in, numbers_in_all, rows_on, span_on, spans_on}
pub use Rattle.mt_splice.specs.steps.Climbing.{EndsAbove, EndsAtRoot, EndsEmpty, EndsInSlot, HasClimbed, IsClimbing, IsLevelDone, IsLevelDrafted, IsNothingLeft, windows_over}
pub use Rattle.mt_splice.specs.steps.Decisions.{EndsHere, IsNextDecision, IsNothing, item_words}
pub use Rattle.mt_splice.specs.steps.Drafting.{AreRowsDrafted, AreRowsTaken, IsPieceDrafted, IsRowTaken, MayDraftRows, noted_row, noted_rows}
pub use Rattle.mt_splice.specs.steps.Ends.{AreTendedTo, IsChildSlot, IsEndPlace, IsReadyToPublish, IsTop, MayTendTop, OnlyParents, with_top}
pub use Rattle.mt_splice.specs.steps.Entries.{IsBegunBy, IsFirstStore, before_of, start_for}
pub use Rattle.mt_splice.specs.steps.Layers.{AreHeld, Beside, IsOld, Stand, head, heads, part_of}
pub use Rattle.mt_splice.specs.steps.Looking.{IsNowOf, MayGather, MayLook, items_above}
pub use Rattle.mt_splice.specs.steps.Plans.{AreAllHeld, IsLayer, IsPlanned, Layer, begin_at, depth_at, gone_by, heads_at, level_of, new_at, newest_first, old_at, seen_at, taken_by, window_at, windows_above, windows_by}
pub use Rattle.mt_splice.specs.steps.Ledgers.{Before, IsInFlight, IsLedger, IsStartOf, new_row_by, new_rows_of, row_seen, stamped}
pub use Rattle.mt_splice.specs.steps.Regions.{AreEnds, IsLeafStep, leaf_items}
pub use Rattle.mt_splice.specs.steps.Replaced.{FewestAs, IsReplaced, StandsAs, count_in, map_as, with_root}
pub use Rattle.mt_splice.specs.steps.Replacing.{IsAnswer}
pub use Rattle.mt_splice.specs.steps.Runs.{MayBeCut, MayBeIn, MayBeLeaves, most_before_hole, most_in_three, most_items, span_to}
pub use Rattle.mt_splice.specs.steps.Seen.{Seen, passing, was_seen}
pub use Rattle.mt_splice.specs.steps.TakingIn.{beside_items, holed_run, is_hole_at, short_run}
pub use Rattle.mt_splice.specs.steps.Telling.{AreAllFromBelow, AreAmongOld, AreFromBelow, AreOld}
pub use Rattle.mt_splice.specs.steps.Told.{GapsAs, GapsBeside, HadGaps, TellGaps, longest_holes, told_gap}
pub use Rattle.mt_splice.specs.steps.Widening.{IsAlone, IsWidened, IsWindow, IsWithBefore, IsWithBehind, MayWiden, wants_row}
pub use Rattle.mt_splice.specs.steps.Windows.{Gathered, StandFor, before, behind, between, high_of, in_place, in_rows, low_of, row_at}
pub use Rattle.mt_splice.specs.steps.Starts.{KeepsRowWords, Start, now, rows_at, table_with, times_in, tree_with, with_words}
pub use Rattle.mt_splice.specs.steps.Writes.{AreChildren, AreTended, IsChild, IsNewRow, IsRowDrafted, OnlyDrafts, child_row, child_word, items_of_row, new_words, no_parent}

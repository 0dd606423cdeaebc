-- What the proofs beside this file take from the toolchain, from the crates below and from this crate's definitions, under one name. Declares nothing.
pub use Rattle.std.proofs.Common.{All, Any, Bool, Err, IfErr, IfOk, List, None, Ok, OnOk, Option, Result, Some, [], add-zero, ap, append-nil, append_assoc, arith, drop, eq-eqb, false, get_or, if◌then◌else◌, inl, inr, length, length-append, length-drop, length-take, map, max, nat_lt, ne_eqb, refl, replicate, slice_index, slice_index_or, subst, suc, sym, take, true, vec_capacity, vec_len, zero, zero-add, ℕ, ◌%◌, ◌*◌, ◌++◌, ◌+◌, ◌-◌, ◌/◌, ◌<◌, ◌==◌, ◌||◌, ◌∙◌, ◌∷◌, ◌≡◌, ◌≢◌, ◌≤◌}
pub use Rattle.mt_base.proofs.Std.{All-cons, All-nil, AllByRecursion, cases_Bool, cases_lt, cond_both, drop-append_seam, drop-drop, drop_all, drop_more, eqb-false, eqb-true, flat_map, get_or-append_right, get_or_append_left, length-map, length-range_with_len, length-replicate, ltb-false, ltb-true, map-range_with_len_more, or_parts, range_with_len, take-append-drop, take-append_seam, take_all, take_rest}
pub use Rattle.std.specs.Int.{div_ceil}
pub use Rattle.mt_base.proofs.Lists.{all_back, all_front, all_map}
pub use Rattle.mt_layout.proofs.Lemmas.{after, after-append, after_some, all_gaps_of, apart_anywhere, apart_back, apart_front, ends_anywhere, fills_end, fills_rise, gap_within, get_or-padded, item_or, layout_of, least-below-slots, length-row_words, length-spans_from, named_kind-name_at, reads_back, rise_from_zero, row_in-name_at, row_words-hold, same_items, some_columns, some_gaps_of, some_least, spans_fill, spans_from-append, two_hold_an_entry, used, used-gap}
pub use Rattle.mt_rows.proofs.Lemmas.{longest_below-append, longest_none, nine_levels, ranges_by_depth}
pub use Rattle.mt_rows.specs.Names.{Apart, EntryLaw, Fills, GapLawBy, GapsFrom, HoleLaw, IsLawful, IsMap, IsMapFrom, IsRow, IsRowNumber, IsTended, Levels, Long, ParentsFrom, Rooted, Short, Span, Table, Tree, base_of, column, covers_all, deepest, expand, gap_column, greatest, greatest_gap, items_at, items_in, kind_at, kind_on, leaf_range, least_items, least_of, least_of_root, longest_below, longest_hole, longest_in, map_in, map_of, root_of, root_span, row_in, row_spans, spans_by, spans_in, top_of, tree_made}
pub use Rattle.mt_bulk.specs.Builds.{AreLaid, AreLanesFrom, AreLevels, FirstHasRoom, HasLeafFacts, HavePushed, IsBuilt, IsLeafLane, IsLevelOf, LeafFacts, above_leaves, heads_made, refused_by, too_many, whole_of, words_made, words_room}
unfoldable pub use Rattle.mt_bulk.specs.Builds.{refusal}
pub use Rattle.mt_bulk.specs.Bulk.{Built, bulk, gap_below, heads, inner_slots, levels_built, parents_in, parents_over, rows_in, rows_up, size_in, words_of}
unfoldable pub use Rattle.mt_bulk.specs.Bulk.{built_up}
pub use Rattle.mt_bulk.specs.Chunks.{AreRows, CanFill, ChunkView, HasFilled, IsFillable, IsLevelToNumber, begins_at, chunk_part, chunk_words, heads_in, place_at, rows_between, view_of}
pub use Rattle.mt_bulk.specs.Cuts.{AllButLast, AreCut, EndsAnyhow, EndsWithEntry, cut, cut_by, ends_from, inner_count, inner_size, leaf_size, or_one_fewer, or_one_more, word_of}
pub use Rattle.mt_bulk.specs.Items.{hole_to, is_misplaced, items_between, items_of, low_behind, misplaced, misplaced_from}
pub use Rattle.mt_bulk.specs.Prelude.{EndsFull, FitRow, IsLawfulOf, IsMadeOf, Item, Kind, Lane, Leaf, NoGaps, Range, RiseFrom, RowKind, Sheet, Width, columns, end_of, finds_room, first_row, gaps_of, greatest_of, inner_kind, inner_of, kind_width, map_by, most_rows, name_at, new_sheet, parent_at, reserved, row_words, sheet_in, slots_of, spans_from}
pub use Rattle.mt_bulk.specs.declared.desks.LeafDesk.{LeafDesk}
pub use Rattle.mt_bulk.specs.declared.errors.BulkError.{BulkError}
pub use Rattle.mt_bulk.specs.declared.leaves.Leaves.{Leaves}
pub use Rattle.mt_bulk.specs.declared.levels.LevelToFill.{LevelToFill}
pub use Rattle.mt_lanes.specs.Lanes.{CanRun, Chain, EachPlace, RanSteps}

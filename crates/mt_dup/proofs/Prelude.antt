-- What the proofs beside this file take from the toolchain, from the crates below and from this crate's definitions, under one name. Declares nothing.
pub use Rattle.std.proofs.Common.{Bool, List, None, Option, Some, [], add-zero, ap, append-nil, append_assoc, arith, drop, eq-eqb, false, get_or, get_or-set_other, get_or-set_same, if◌then◌else◌, inl, inr, length, length-append, length-drop, length-set, length-take, lt-ltb, map, nat_le, nat_lt, ne_eqb, refl, replicate, rules, slice_index, slice_set, subst, suc, sym, take, true, zero, ℕ, ⊎_elim, ◌%◌, ◌*◌, ◌++◌, ◌+◌, ◌-◌, ◌<◌, ◌==◌, ◌∙◌, ◌∷◌, ◌≡◌, ◌≢◌, ◌≤◌, ◌⊎◌}
pub use Rattle.mt_base.proofs.Std.{All, All-cons, All-nil, All-weaker, AllByRecursion, AllPairs, AllPairs-cons, Contains, cases_Bool, cases_eq, cases_lt, eqb-true, flat_map, flat_map-append, get_or-drop, get_or-replicate, get_or-take, get_or_past, length-map, length-range_with_len, length-replicate, ltb-true, map-append, range_with_len, same_from_push, slice_range, take_all, take_more}
pub use Rattle.mt_base.proofs.Lists.{all_back, all_front, all_join, all_map}
pub use Rattle.mt_layout.proofs.Lemmas.{Names-named_kind, all_gaps, few_slots_of, gap_at-none, gap_at-some, gap_within, get_or-padded, item_or, layout_of, length-spans_from, length-used, named_kind-name_at, place_within, row_in-name_at, row_within, slot_within, slots-fit, slots_of-columns, some_columns, some_slots_of, used, used-gap, used-pivot, used-slot}
pub use Rattle.mt_rows.proofs.Lemmas.{all_at, all_both, by_inner, by_leaf, children_hold, level_rows, levels_back, levels_front, levels_here, levels_join, levels_none, levels_pair, name_some, names_are, once_in, one_read, ranges_by_depth, reads_on, row_most, row_named, same_tree, tally-append}
pub use Rattle.mt_rows.specs.Names.{Apart, AreDrafted, EndsFull, Fills, GapLawBy, GapsFrom, HasWords, IsFree, IsLawful, IsLawfulOf, IsLayout, IsPlace, IsRow, IsRowNumber, IsTended, IsToldKind, IsWhole, Item, Kind, Levels, MayPlant, OnlyReads, ParentsFrom, Stands, Tree, Width, base_of, deepest, expand, finds_room, gap_at, gap_column, gaps_of, height_in, inner_of, item_at, items_at, items_from, items_in, kind_at, kind_number, kind_on, kind_width, leaf_range, least_of, level, loaded, longest_below, longest_in, map_by, map_in, map_of, most_rows, name_at, one_if, pivot_column, reserved, root_of, root_span, row_words, rows_of, rows_whole, sheet_in, spans_by, spans_from, spans_in, tally, tree_as, with_published, words_in}
pub use Rattle.mt_rows.specs.declared.rows.Life.{Life}
pub use Rattle.mt_rows.specs.declared.rows.Place.TheVariants.{Root}
pub use Rattle.mt_free.specs.Book.{StampedRow, IsRowOf, held_rows, new_book, rows_down}
pub use Rattle.mt_dup.specs.Copy.{AreInOrder, IsBookOfCopy, IsCopy, IsNewBut, IsRowCopy, slot_renamed, with_new_row}
pub use Rattle.mt_dup.specs.Filling.{HasTaken, IsFilling, IsOpenCopy, IsOutside, IsWritten, next_row, rows_above}
pub use Rattle.mt_dup.specs.Pairs.{HasOwn, IsWrittenAt}
pub use Rattle.mt_dup.specs.Prelude.{Book, Draft, Gapped, Inner, IsBook, IsOut, IsReached, Leaf, New, Rooted, RowKind, Sheet, Span, StandsAt, Table, column, columns, first_row, is_reached, life_of, named_kind, names_of, new_sheet, parent_at, reached_in, row_in, slot_column, slots_of}
pub use Rattle.mt_dup.specs.Walks.{AreCopied, AreNumbered, HasNames, IsCopied, IsNoName, KeepsOwn, LeavesChildren, LeavesCopy, MayCopyBelow, MayCopyBy, ParentsAre, names_below, names_by}
unfoldable pub use Rattle.mt_dup.specs.Walks.{MayCopy, names_from}
pub use Rattle.mt_dup.specs.declared.columns.Pair.{Pair}
pub use Rattle.mt_dup.specs.declared.walks.Way.{Way}

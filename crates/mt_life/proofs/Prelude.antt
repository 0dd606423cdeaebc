-- What the proofs beside this file take from the toolchain, from the crates below and from this crate's definitions, under one name. Declares nothing.
pub use Rattle.std.proofs.Common.{Bool, List, None, Option, Some, [], ap, arith, false, get_or, get_or-set_other, get_or-set_same, inl, inr, length, length-append, map, nat_le, refl, slice_index, slice_set, subst, suc, sym, true, zero, ℕ, ⊎_elim, ◌*◌, ◌++◌, ◌+◌, ◌-◌, ◌<◌, ◌==◌, ◌∙◌, ◌∷◌, ◌≡◌, ◌≢◌, ◌≤◌, ◌⊎◌}
pub use Rattle.mt_base.proofs.Std.{AllByRecursion, cases_Bool, cases_eq, cases_lt, flat_map, flat_map-append, get_or_past, slice_get, slice_get-get_or, slice_get_within}
pub use Rattle.mt_layout.proofs.Lemmas.{few_items, few_slots_of, gap_above, get_or-padded, item_or, layout_of, length-spans_from, other_column, other_place, place_within, slot_above, slots_of-columns, some_columns, used, used-pivot}
pub use Rattle.mt_rows.proofs.Lemmas.{Between, IsOneOf, OnLevel, Shared, all_back, all_expand, all_front, all_join, all_map, all_of_each, all_one_of, below_low, below_on_level, by_inner, by_leaf, expand-append, expand_one_of, few_slots_passed, fills_le, fills_split, height_is, inner_not_named, leaf_between, level_fills, level_next, level_rows, levels_pair, levels_shared, levels_upper, map_between, map_of_split, on_level, on_level_law, on_level_reached, one_of_expand, one_of_get, one_place, parts_of_one, published_rows, published_width, ranges_by_depth, reached_number, reached_on_level, reached_times, row_keeps, row_most, row_stays, same_spans, slot_read, some_least, spans_stay, stands_at, times_reached, tree_map, with_words, words}
pub use Rattle.mt_rows.specs.Names.{Apart, Call, EndsFull, Fills, Gapped, HasWords, IsBelow, IsFree, IsGapOf, IsLawful, IsLawfulOf, IsMap, IsPlace, IsPlaceToPublish, IsReached, IsRow, IsTended, IsTree, IsTreeOf, Item, Kind, Levels, LiveAreReached, MayBegin, MayBury, MayFinish, MayPublish, MayTend, NameLaw, NoneBuried, ParentsFrom, Published, Range, Reply, Rooted, RowKind, SameColumns, SameSpans, Sheet, Span, Stands, StandsAt, Table, Tree, Width, after_bury, base_of, begun, column, columns, dead_mark, deepest, drafted, expand, finds_room, finished, first_row, gap_column, gaps_of, greatest, height_in, inner_kind, is_buried, is_reached, items_at, items_from, kind_at, kind_on, kind_width, leaf_range, level, life_of, map_by, map_in, map_of, most_rows, named_kind, one_if, parent_at, pivot_column, ranges_of, root_of, root_span, row_in, scanned, slot_column, slots_of, spans_by, spans_from, spans_in, tended, top_of, tree_as, tree_on, with_published, with_record, with_word, word_at}
pub use Rattle.mt_rows.specs.declared.rows.Life.{Life}
pub use Rattle.mt_rows.specs.declared.rows.Life.TheVariants.{Dead, Draft, Live, New}
pub use Rattle.mt_rows.specs.declared.rows.Place.{Place}
pub use Rattle.mt_rows.specs.declared.rows.Place.TheVariants.{Root, Slot}
pub use Rattle.mt_rows.specs.declared.rows.Scan.{Scan}
pub use Rattle.mt_life.specs.Holding.{HoldsRow, LeadsTo, LeafTells, Snapshot, as_known_now, come, copy_of, died_by}
pub use Rattle.mt_life.specs.Known.{Alive, Child, Goes, HasExtentsOf, HasPart, HasRow, IsFull, IsLive, Known, Later, SameForm, Shape, State, begun_calls, calls, extent_at, extent_of, nowhere, spans_at, state_of, with_cleared}
pub use Rattle.mt_life.specs.Moments.{Cut, PartOf, first_index, moment_of}
pub use Rattle.mt_life.specs.declared.views.Extent.{Extent}
pub use Rattle.mt_life.specs.declared.views.Held.{Held}
pub use Rattle.mt_life.specs.declared.views.Moment.{Moment}

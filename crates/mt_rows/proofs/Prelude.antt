-- What the proofs beside this file take from the toolchain, from the crates below and from this crate's definitions, under one name. Declares nothing.
pub use Rattle.std.proofs.Common.{Bool, List, None, Option, Some, [], ap, append-nil, append_assoc, arith, cond, drop, eq-eqb, false, filter, get_or, get_or-set_other, get_or-set_same, if◌then◌else◌, inl, inr, is_some, length, length-append, length-drop, length-set, length-take, map, max, min, nat_le, nat_lt, ne_eqb, refl, replicate, rules, set, slice_index, slice_index_or, slice_set, subst, suc, sym, take, true, zero, zero-add, ℕ, ⊎_elim, ◌&&◌, ◌*◌, ◌++◌, ◌+◌, ◌-◌, ◌/◌, ◌<◌, ◌==◌, ◌^◌, ◌∙◌, ◌∷◌, ◌≡◌, ◌≢◌, ◌≤◌, ◌⊎◌}
pub use Rattle.std.proofs.Math.ListN.{get_or-eq_default}
pub use Rattle.mt_base.proofs.Std.{AllByRecursion, and_parts, cases_Bool, cases_eq, cases_lt, eqb-false, eqb-true, ext_get_or, flat_map, flat_map-append, fold, fold-append, get_or-append-add, get_or-drop, get_or-replicate, get_or-take, get_or_append_left, get_or_default, get_or_past, le-leb, le-ltb, leb-false, leb-true, length-flat_map-take, length-map, length-replicate, lt-leb, lt-ltb, ltb-false, ltb-true, map-append, map-set, map-set_same, mul-add, mul-div_cancel_left, mul-le-mul_left, mul-le-mul_right, one-le-pow, pow-le-pow_right, pow-succ', set-append_left, set-append_right, set-get_or, slice_get, slice_get-get_or, slice_get_within, slice_range, take-replicate, take_all, take_more, with_items_is}
pub use Rattle.std.proofs.lemmas.List.Edits.{map_over_more}
pub use Rattle.std.proofs.lemmas.List.Filters.{length-filter_more}
pub use Rattle.std.specs.Vec.{vec_capacity, with_items}
pub use Rattle.mt_base.proofs.Lemmas.{IsMapFrom-lower, all_back, all_front, all_join, all_map, deepest_fits, get_parts, many_columns, none_or_some}
pub use Rattle.mt_base.specs.Names.{IsMap, IsMapFrom, cut_above, cut_below, first_met, greatest_of, over, part_stored, parts_above, parts_below, replied}
pub use Rattle.mt_base.specs.declared.calls.Call.TheVariants.{Store}
pub use Rattle.mt_base.specs.declared.widths.Width.TheVariants.{Long, Short}
pub use Rattle.mt_layout.proofs.Lemmas.{Names-named_kind, all_gaps_of, few_items, fills_le, fills_split, gap_at-none, gap_at-some, gap_within, get_or-field, get_or-padded, item_or, layout_of, least-below-slots, least_four, least_six, length-padded, length-pivots, length-slots, length-spans_from, other_place, place_within, row_within, same_items, same_place, slot_within, slots-fit, slots_of-columns, some_columns, some_gaps_of, some_least, some_slots, some_slots_of, spans-words, used, used-slot}
pub use Rattle.mt_layout.specs.Names.{BeginsFull, IsLayout, gap_at, gap_words, item_at, items_from, name_at, padded_to, pivot_column, pivot_words, slot_words}
pub use Rattle.mt_rows.specs.Drafts.{AreDrafted}
pub use Rattle.mt_rows.specs.Fates.{Fated, enlivened, opened_with, table_of, with_reached}
pub use Rattle.mt_rows.specs.Gaps.{covers}
pub use Rattle.mt_rows.specs.Laws.{EntryLaw, HasWords, HoleLaw, IsRow, NameLaw, Stands, Tree, covers_all, items_in, kind_on, least_of, least_of_root, longest_below, top_of, words_in}
pub use Rattle.mt_rows.specs.Levels.{IsBelow, Levels, SameColumns, SameSpans, expand, is_row_of, level, map_of, one_if, tally, times}
pub use Rattle.mt_rows.specs.Memory.{sheet_in}
pub use Rattle.mt_rows.specs.OfWords.{IsMadeOf, tree_made}
pub use Rattle.mt_rows.specs.Plain.{IsPlaceOfTree, IsPlainState, buried_in, fate_of, life_in, names_of, new_sheet, past_of, sheet_of}
pub use Rattle.mt_rows.specs.PlainWhole.{life_at}
pub use Rattle.mt_rows.specs.Prelude.{Apart, Call, EndsFull, Fills, Gapped, Inner, Item, Kind, Leaf, Range, Reply, RowKind, Span, Width, acted, columns, dead_mark, deepest, first_row, gap_column, gaps_of, greatest, items_at, kind_width, leaf_range, least_items, longest_in, most_rows, named_kind, named_row, reserved, row_in, row_words, slot_column, slots_of, spans_from}
pub use Rattle.mt_rows.specs.Publish.{ChangesRows, IsPlaceToPublish, IsReached, IsSlotOf, IsToldKind, KeepsPlace, LiveAreReached, MayFinish, MayPlant, MayPublish, NoneBuried, Planted, Published, SameHoles, StandsAt, is_reached, life_after, map_by, tree_as, tree_on, with_published, with_record}
pub use Rattle.mt_rows.specs.Replacement.{IsNewBelow, IsSlotAt, ReplacesChild, ReplacesEntry, root_of, with_child, with_slot}
pub use Rattle.mt_rows.specs.Sheet.{IsFree, IsPlace, IsWhole, MayBury, OnlyReads, Rooted, Sheet, drafted, is_buried, life_of, loaded, with_word, word_at}
pub use Rattle.mt_rows.specs.Spans.{Table, base_of, column, inner_of, root_span, row_spans, spans_by, spans_in}
pub use Rattle.mt_rows.specs.Trees.{by_kind, height_in, height_of, levels_by, map_in, of_first, ranges_of, reached_in, rows_of}
pub use Rattle.mt_rows.specs.Words.{ArePut, Listed, with_zeros}
pub use Rattle.mt_rows.specs.declared.fates.Fate.{Fate}
pub use Rattle.mt_rows.specs.declared.fates.Fate.TheVariants.{Buried, Draft, Live, New}
pub use Rattle.mt_rows.specs.declared.plain.State.{State}
pub use Rattle.mt_rows.specs.declared.rows.Life.{Life}
pub use Rattle.mt_rows.specs.declared.rows.Place.{Place}
pub use Rattle.mt_rows.specs.declared.rows.Place.TheVariants.{Root, Slot}

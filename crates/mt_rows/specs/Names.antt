-- What the crates above take from this crate's definitions, under one name. Declares nothing.
pub use Rattle.mt_base.specs.Names.{AreLegalFrom, Begins, History, Hole, IsAnswered, IsLegal, IsMade, IsMap, IsMapFrom, IsRefused, IsRoom, IsShort, Limits, Record, Saw, Wants, Wrote, acted, answer, clip, columns, cut_below, deepest, entry_or_zero, erased, fewest_rows, find_at, finds_room, first_met, first_range, first_row, fits, found, greatest, greatest_of, high_to, highest_in, holder_of, holding, holds, hole_between, holes_from, holes_to, is_bad_area, is_exact_store, is_held, is_invalid, is_no_area, kept, kind_width, last_map, last_range, limits_after, longer, low_to, lowest_in, map_after, map_at, map_by_reply, most_calls, most_passes, most_rows, most_taken, new_pass, one_call_more, over, overlaps, part_stored, parts_above, parts_below, place_behind, place_within, placed, places, places_from, replied, reserved, with_records, without}
pub use Rattle.mt_base.specs.declared.calls.Call.{Call}
pub use Rattle.mt_base.specs.declared.calls.Call.TheVariants.{Alloc, Clear, Erase, Gap, Insert, Ralloc, Rgap, Store, StorePre}
pub use Rattle.mt_base.specs.declared.calls.Query.{Query}
pub use Rattle.mt_base.specs.declared.calls.Query.TheVariants.{Find, Load, Next, Prev, Rfind}
pub use Rattle.mt_base.specs.declared.kinds.Kind.{Kind}
pub use Rattle.mt_base.specs.declared.outcomes.Done.{Done}
pub use Rattle.mt_base.specs.declared.outcomes.Read.{Read}
pub use Rattle.mt_base.specs.declared.outcomes.Worn.{Worn}
pub use Rattle.mt_base.specs.declared.ranges.Range.{Range}
pub use Rattle.mt_base.specs.declared.replies.Holder.{Holder}
pub use Rattle.mt_base.specs.declared.replies.Reply.{Reply}
pub use Rattle.mt_base.specs.declared.replies.Reply.TheVariants.{NoNodes}
pub use Rattle.mt_base.specs.declared.replies.Shortage.{Shortage}
pub use Rattle.mt_base.specs.declared.widths.Width.{Width}
pub use Rattle.mt_base.specs.declared.widths.Width.TheVariants.{Long, Short}
pub use Rattle.mt_layout.specs.Names.{Apart, BeginsFull, EndsFull, Fills, FitRow, IsLayout, IsRowNumber, NoGaps, RiseFrom, dead_mark, end_of, gap_at, gap_column, gaps_of, greatest_gap, hole_length, item_at, items_at, items_from, kind_number, leaf_range, least_items, longest_hole, longest_in, longest_under, name_at, named_kind, named_row, padded_to, parent_at, pivot_column, row_in, row_words, run_room, slot_column, slots_of, spans_from}
pub use Rattle.mt_layout.specs.declared.items.Item.{Item}
pub use Rattle.mt_layout.specs.declared.names.RowKind.{RowKind}
pub use Rattle.mt_layout.specs.declared.names.RowKind.TheVariants.{Gapped, Inner, Leaf}
pub use Rattle.mt_layout.specs.declared.spans.Span.{Span}
pub use Rattle.mt_rows.specs.Drafts.{AreDrafted}
pub use Rattle.mt_rows.specs.Gaps.{GapLawBut, GapLawButBy, GapsFromBut, HasGaps, HasGapsBut, KeepsGaps, covers}
pub use Rattle.mt_rows.specs.Laws.{CountLaw, EntryLaw, GapLaw, GapLawBy, GapsFrom, HasWords, HoleLaw, IsLawful, IsRow, IsTended, IsTree, NameLaw, ParentLaw, ParentsFrom, PivotLaw, Stands, Tree, covers_all, items_in, kind_at, kind_on, least_of, least_of_root, longest_below, top_of, words_in}
pub use Rattle.mt_rows.specs.Levels.{IsBelow, Levels, SameColumns, SameSpans, expand, is_row_of, level, map_of, one_if, tally, times}
pub use Rattle.mt_rows.specs.Memory.{sheet_in}
pub use Rattle.mt_rows.specs.OfWords.{IsMadeOf, tree_made}
pub use Rattle.mt_rows.specs.Plain.{names_of, new_sheet}
pub use Rattle.mt_rows.specs.PlainWhole.{rows_whole}
pub use Rattle.mt_rows.specs.Publish.{ChangesRows, IsFoundShort, IsHeldBack, IsKnown, IsLawfulOf, IsPlaceToPublish, IsReached, IsRealShortage, IsSlotOf, IsToldKind, IsTreeOf, KeepsPlace, LeavesMap, LiveAreReached, MayFinish, MayPlant, MayPublish, NoneBuried, Planted, Published, SameHoles, StandsAt, WasScanned, finished, is_reached, life_after, map_by, tree_as, tree_on, with_published, with_record}
pub use Rattle.mt_rows.specs.Replacement.{IsSlotAt, ReplacesEntry, root_of, with_child, with_slot}
pub use Rattle.mt_rows.specs.Sheet.{Caller, HasDied, IsFree, IsGapOf, IsPlace, IsScan, IsWhole, MayBegin, MayBury, MayTend, OnlyReads, ReadsUpTo, Rooted, RoseUpTo, Sheet, Told, after_bury, begun, drafted, is_buried, life_of, limits_of, loaded, one_more, scanned, tended, with_word, word_at}
pub use Rattle.mt_rows.specs.Spans.{Table, base_of, column, inner_kind, inner_of, root_span, row_spans, spans_by, spans_in}
pub use Rattle.mt_rows.specs.Trees.{by_kind, height_in, height_of, levels_by, map_in, of_first, ranges_of, reached_in, rows_of}

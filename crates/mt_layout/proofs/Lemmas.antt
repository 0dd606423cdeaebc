-- What the crates above take from this crate's lemmas, under one name. Declares nothing.
pub use Rattle.mt_layout.proofs.Gapless.{no_gaps-cons}
pub use Rattle.mt_layout.proofs.NameLaws.{Names-named_kind, named_kind-name_at, row_in-name_at}
pub use Rattle.mt_layout.proofs.OwnColumns.{same_items}
pub use Rattle.mt_layout.proofs.Places.{one_row_more, other_column, other_place, place_within, row_within, same_place, word_behind, words_before, words_in_all}
pub use Rattle.mt_layout.proofs.ReadBack.{Holds, reads_back, row_words-hold}
pub use Rattle.mt_layout.proofs.Reading.{IsItem, ends, few_items, gap_at-none, gap_at-some, goes_on, read_all, read_last, read_more, some_items}
pub use Rattle.mt_layout.proofs.RowSizes.{all_gaps, all_gaps_of, few_slots_of, gap_above, gap_within, layout_of, least-below-slots, least_four, least_six, no_gaps_of, sizes, slot_above, slot_within, slots-fit, slots_of-columns, slots_of-room, some_columns, some_gaps_of, some_least, some_slots, some_slots_of}
pub use Rattle.mt_layout.proofs.RowWords.{get_or-field, get_or-padded, item_or, length-padded, length-pivots, length-row_words, length-slots, length-used, used, used-gap, used-pivot, used-slot}
pub use Rattle.mt_layout.proofs.SpanLists.{after, after-append, after_some, apart-append, apart_anywhere, apart_back, apart_front, ends_anywhere, fills-append, fills_after, fills_end, fills_items, fills_le, fills_parts, fills_rise, fills_split, full-append, full_back, full_before_hole, full_behind_hole, last_ends, length-spans_from, none_filled, rise_from_zero, some_filled, spans-append, spans-drop, spans-take, spans-words, spans_fill, spans_from-append, two_hold_an_entry}

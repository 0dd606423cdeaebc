-- What the crates above take from this crate's lemmas, under one name. Declares nothing.
pub use Rattle.mt_rows.proofs.Between.{Between, fills_split, leaf_between, map_between, over_between}
pub use Rattle.mt_rows.proofs.Deeper.{by_kind_inner, height_of_inner, of_first_at, ranges_of_deeper, ranges_of_inner, row_named, rows_of_deeper, rows_of_inner}
pub use Rattle.mt_rows.proofs.Depth.{IsInner, IsLeaf, by_inner, by_leaf, height_by_depth, inners, leaves, ranges_by_depth, some_least}
pub use Rattle.mt_rows.proofs.ExactStore.{may_publish}
pub use Rattle.mt_rows.proofs.FewRows.{few_rows, many_ranges, row_on_each_level}
pub use Rattle.mt_rows.proofs.FewSpans.{row_most}
pub use Rattle.mt_rows.proofs.Frames.{same_spans}
pub use Rattle.mt_rows.proofs.GapStore.{all_spans_stay, other_gap, others_keep, row_stays, spans_stay, still_stands, this_gap}
pub use Rattle.mt_rows.proofs.Heights.{all_both, level_fills, level_next, level_rows, level_shared, levels_both, levels_lower, levels_pair, levels_upper, map_of_split, times_split, upper_both, upper_more, upper_shared}
pub use Rattle.mt_rows.proofs.InnerKinds.{inner_no_leaf, inner_not_named, leaf_low}
pub use Rattle.mt_rows.proofs.Joins.{Shared, expand_shared, level-append, levels_back, levels_front, levels_join, levels_shared, map_of_shared, times_shared}
pub use Rattle.mt_rows.proofs.Lists.{Filled, all_at, all_back, all_expand, all_front, all_join, all_map, children_hold, expand-append, expand_fills, fills_le, levels_here, levels_map, levels_none, tally-append}
pub use Rattle.mt_rows.proofs.Loads.{one_read, reads_on, same_tree}
pub use Rattle.mt_rows.proofs.Longest.{longest_below-append, longest_in-append, longest_none, longest_shared}
pub use Rattle.mt_rows.proofs.NineLevels.{few_slots_passed, nine_levels}
pub use Rattle.mt_rows.proofs.Once.{IsPart, expand_parts, inner_wide, once_in}
pub use Rattle.mt_rows.proofs.PlainMade.{lawful_tree}
pub use Rattle.mt_rows.proofs.PlainNames.{names_are, slot_read}
pub use Rattle.mt_rows.proofs.PlainPlant.{below_few, children_few, level_fits, rows_fit}
pub use Rattle.mt_rows.proofs.Published.{published_rows, published_width}
pub use Rattle.mt_rows.proofs.Ranges.{rows_filled, tree_map}
pub use Rattle.mt_rows.proofs.Reached.{IsOneOf, OnLevel, all_of_each, all_one_of, below_low, below_on_level, expand_one_of, height_is, here_le, level_is_below, levels_at, levels_from, on_level, on_level_law, on_level_reached, one_of_either, one_of_expand, one_of_get, one_of_left, one_of_parts, one_of_right, one_place, parts_of_one, reached_number, reached_on_level, reached_times, stands_at, tally_place, tally_some, times_in_once, times_reached, words}
pub use Rattle.mt_rows.proofs.RowGaps.{AreGapsAt, covers_it, gaps_read}
pub use Rattle.mt_rows.proofs.RowLaws.{name_some, row_keeps, with_words}
pub use Rattle.mt_rows.proofs.Settled.{Implies, stays_in_place}
pub use Rattle.mt_rows.proofs.SlotWords.{items_at-put, put_item}

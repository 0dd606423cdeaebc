-- What the crates above take from this crate's lemmas, under one name. Declares nothing.
pub use Rattle.mt_base.proofs.AboveTop.{none_found_above, none_holds_above, none_next_above, prev_above, rfind_above}
pub use Rattle.mt_base.proofs.CallsKeepOrder.{acted_is_map, is_area, stored_area, valid_entry, valid_order, valid_within, without_is_map}
pub use Rattle.mt_base.proofs.FirstMet.{is_held_where_met}
pub use Rattle.mt_base.proofs.FreeAreas.{high_is_room, holes, low_is_room, part_is_free}
pub use Rattle.mt_base.proofs.Goings.{begins_long, begins_none, begins_on, grew_read, grows_none, grows_on, learned_grows, saw_grows, saw_wrote}
pub use Rattle.mt_base.proofs.Lists.{all_back, all_front, all_join, all_map, get_parts, none_or_some}
pub use Rattle.mt_base.proofs.PlainReplies.{IsActed, IsPlain, acted_plainly, was_acted}
pub use Rattle.mt_base.proofs.ReadingAfterStore.{entry_inside}
pub use Rattle.mt_base.proofs.SharedCalls.{each_once, flat_same, one_more, place_left, place_taken}
pub use Rattle.mt_base.proofs.Shortages.{few_unheld, still_short}
pub use Rattle.mt_base.proofs.StoredOrder.{IsMapFrom-lower, over_is_map}
pub use Rattle.mt_base.proofs.WidthBounds.{deepest_fits, few_columns, greatest_fits, many_columns}

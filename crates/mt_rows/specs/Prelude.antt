-- What the definitions beside this file take from the toolchain and from the crates below, under one name. Declares nothing.
pub use Rattle.mt_base.specs.Names.{IsRefused, Limits, Record, acted, columns, deepest, finds_room, first_row, greatest, kind_width, most_calls, most_rows, reserved}
pub use Rattle.mt_base.specs.declared.calls.Call.{Call}
pub use Rattle.mt_base.specs.declared.kinds.Kind.{Kind}
pub use Rattle.mt_base.specs.declared.ranges.Range.{Range}
pub use Rattle.mt_base.specs.declared.replies.Holder.{Holder}
pub use Rattle.mt_base.specs.declared.replies.Reply.{Reply}
pub use Rattle.mt_base.specs.declared.replies.Shortage.{Shortage}
pub use Rattle.mt_base.specs.declared.widths.Width.{Width}
pub use Rattle.mt_layout.specs.Names.{Apart, EndsFull, Fills, dead_mark, gap_column, gaps_of, items_at, leaf_range, least_items, longest_in, named_kind, named_row, parent_at, row_in, row_words, slot_column, slots_of, spans_from}
pub use Rattle.mt_layout.specs.declared.items.Item.{Item}
pub use Rattle.mt_layout.specs.declared.names.RowKind.{RowKind}
pub use Rattle.mt_layout.specs.declared.names.RowKind.TheVariants.{Gapped, Inner, Leaf}
pub use Rattle.mt_layout.specs.declared.spans.Span.{Span}

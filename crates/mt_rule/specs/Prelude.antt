-- What the definitions beside this file take from the toolchain and from the crates below, under one name. Declares nothing.
pub use Rattle.mt_rows.specs.Names.{Begins, Call, HasDied, History, Holder, IsLawfulOf, IsLegal, IsMap, IsPlace, IsRealShortage, IsRefused, IsTreeOf, IsWhole, Kind, LiveAreReached, Long, NoneBuried, Published, Record, Reply, Rooted, RowKind, Sheet, Span, Width, acted, columns, dead_mark, deepest, first_row, greatest, holder_of, inner_kind, is_reached, kind_at, kind_width, life_of, limits_after, map_at, map_by, most_calls, most_passes, most_rows, named_kind, one_if, places, reached_in, row_in, sheet_in, slot_column, slots_of, word_at}
pub use Rattle.mt_rows.specs.declared.rows.Life.{Life}
pub use Rattle.mt_rows.specs.declared.rows.Life.TheVariants.{Draft, Live, New}
pub use Rattle.mt_rows.specs.declared.rows.Place.{Place}
pub use Rattle.mt_rows.specs.declared.rows.Place.TheVariants.{Root, Slot}
pub use Rattle.mt_rows.specs.declared.rows.Scan.{Scan}
pub use Rattle.mt_life.specs.Holding.{HoldsRow, Snapshot, copy_of}
pub use Rattle.mt_life.specs.Known.{HasPart, HasRow, Known, SameForm, Shape, State, spans_at}
pub use Rattle.mt_life.specs.Moments.{cuts_by}
pub use Rattle.mt_life.specs.declared.views.Extent.{Extent}
pub use Rattle.mt_life.specs.declared.views.Held.{Held}

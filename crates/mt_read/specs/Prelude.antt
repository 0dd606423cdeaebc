-- What the definitions beside this file take from the toolchain and from the crates below, under one name. Declares nothing.
pub use Rattle.mt_rows.specs.Names.{Begins, Find, History, IsMap, Kind, Load, Long, Next, Prev, Query, Range, Rfind, Short, Width, answer, find_at, greatest_of, inner_kind, kind_width, leaf_range, place_behind, slots_of}
pub use Rattle.mt_life.specs.Holding.{Snapshot, copy_of}
pub use Rattle.mt_life.specs.Known.{HasRow, Shape, spans_at}
pub use Rattle.mt_life.specs.declared.views.Held.{Held}
pub use Rattle.mt_rule.specs.Names.{HasBecome, Identity, IsAt, IsLeafRead, IsPassOf, IsRowAt, Reads, Stepped, closed_section, here, kind_of, moment_seen, opened_section, part_of, spans_here, with_seen}
pub use Rattle.mt_rule.specs.declared.views.PassPart.{PassPart}

-- What the definitions beside this file take from the toolchain and from the crates below, under one name. Declares nothing.
pub use Rattle.mt_log.specs.Names.{AreScanSteps, Asked, History, IsDone, NamesBelow, Pass, Query, Range, Read, Step, entry_of, find_at, lane_after, place_after, place_behind, shown, stepped_after}
pub use Rattle.mt_log.specs.declared.lines.Item.{Item}
pub use Rattle.mt_log.specs.declared.lines.Item.TheVariants.{Ask, Check, Dup, Join, Scan, Write}
pub use Rattle.mt_log.specs.declared.lines.Line.{Line}
pub use Rattle.mt_log.specs.declared.transcripts.Entry.{Entry}
pub use Rattle.mt_linearize.specs.Leads.{Leads, outcomes_of}
pub use Rattle.mt_linearize.specs.Rooms.{answers_joined}

-- What the definitions beside this file take from the toolchain and from the crates below, under one name. Declares nothing.
pub use Rattle.mt_log.specs.Names.{AreDone, Asked, Called, CopyOf, Counted, Declared, Empty, Follows, Grows, History, IsAnswered, IsDone, IsHeldRightly, IsSettled, IsTrueRead, Kind, Knows, Limits, Looked, NamesBelow, Opening, Opens, Outcome, Pass, Range, Read, Record, Saw, Settled, Step, Wrote, calls_before, holder_of, is_answered, is_read, lane_after, lane_of, last_map, limits_after, map_at, new_pass, phase_after, places, stepped_after, with_records}
pub use Rattle.mt_log.specs.declared.lines.Line.{Line}
pub use Rattle.mt_log.specs.declared.transcripts.Said.{Said}

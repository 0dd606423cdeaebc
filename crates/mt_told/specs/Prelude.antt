-- What the definitions beside this file take from the toolchain and from the crates below, under one name. Declares nothing.
pub use Rattle.mt_log.specs.Names.{AreDone, AreScanSteps, Asked, Called, Counted, Kind, Load, Looked, NamesBelow, Outcome, Query, Range, Reply, Step, answer_text, asked_from, entry_of, is_name, kind_text, lane_of, listing_text, most_lanes, place_within, range_line, reply_text, said_of, shown, shown_range, steps_of, trees_of}
pub use Rattle.mt_log.specs.declared.lines.Item.{Item}
pub use Rattle.mt_log.specs.declared.lines.Item.TheVariants.{Scan}
pub use Rattle.mt_log.specs.declared.lines.Line.{Line}
pub use Rattle.mt_log.specs.declared.lines.Log.{Log}
pub use Rattle.mt_log.specs.declared.transcripts.Answer.{Answer}
pub use Rattle.mt_log.specs.declared.transcripts.Entry.{Entry}
pub use Rattle.mt_log.specs.declared.transcripts.Listing.{Listing}
pub use Rattle.mt_log.specs.declared.transcripts.Said.{Said}

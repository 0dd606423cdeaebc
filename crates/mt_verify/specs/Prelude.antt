-- What the definitions beside this file take from the toolchain and from the crates below, under one name. Declares nothing.
pub use Rattle.mt_log.specs.Names.{Alloc, Call, Called, Clear, CopyOf, Counted, Declared, Empty, Erase, Gap, History, Holder, Insert, IsMap, IsReadable, IsRefused, IsRun, IsRunBy, Kind, Knows, Limits, Looked, NoNodes, Opening, Opens, Outcome, Ralloc, Range, Record, Reply, Rgap, Shortage, Step, Store, StorePre, acted, answer, high, holding, is_bad_area, is_exactly, is_held, is_invalid, is_read, listing_text, low, map_at, most_lanes, most_rows, most_trees, numbered_on, reply_text, shown, text_of, trees_of}
pub use Rattle.mt_log.specs.declared.lines.Item.{Item}
pub use Rattle.mt_log.specs.declared.lines.Item.TheVariants.{Write}
pub use Rattle.mt_log.specs.declared.lines.Log.{Log}
pub use Rattle.mt_log.specs.declared.transcripts.Answer.{Answer}
pub use Rattle.mt_log.specs.declared.transcripts.Listing.{Listing}
pub use Rattle.mt_log.specs.declared.transcripts.Said.{Said}
pub use Rattle.mt_log.specs.declared.transcripts.Transcript.{Transcript}
pub use Rattle.mt_told.specs.Telling.{AreTold}
pub use Rattle.mt_told.specs.declared.told.ToldLine.{ToldLine}
pub use Rattle.mt_told.specs.declared.told.What.{What}
pub use Rattle.mt_told.specs.declared.told.What.TheVariants.{Copied, Got, Lawful, Wrote}
pub use Rattle.mt_list.specs.ListMap.{Contents}

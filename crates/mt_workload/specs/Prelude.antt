-- What the definitions beside this file take from the toolchain and from the crates below, under one name. Declares nothing.
pub use Rattle.mt_log.specs.Names.{Alloc, Call, Erase, Find, Load, Ralloc, Reply, Store}
pub use Rattle.mt_log.specs.declared.lines.Item.{Item}
pub use Rattle.mt_log.specs.declared.lines.Item.TheVariants.{Ask, Lane, Scan, Tree, Write}
pub use Rattle.mt_log.specs.declared.lines.Line.{Line}
pub use Rattle.mt_log.specs.declared.lines.Log.{Log}
pub use Rattle.mt_log.specs.declared.transcripts.Answer.{Answer}
pub use Rattle.mt_log.specs.declared.transcripts.Entry.{Entry}
pub use Rattle.mt_log.specs.declared.transcripts.Said.{Said}
pub use Rattle.mt_log.specs.declared.transcripts.Said.TheVariants.{Copied, Got, Lawful, Wrote}
pub use Rattle.mt_log.specs.declared.transcripts.Transcript.{Transcript}

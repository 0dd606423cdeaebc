-- What the definitions beside this file take from the toolchain and from the crates below, under one name. Declares nothing.
pub use Rattle.mt_image.specs.Images.{IsImageOfMap}
pub use Rattle.mt_log.specs.Names.{AreDone, AreInPlaceFrom, AreNamedFrom, History, IsRun, IsSettled, Kind, Pass, Range, Settled, Step, entry_of, fewest_rows, lane_after, last_map, map_at, most_calls, most_lanes, most_rows, new_pass, renamed, steps_of, trees_of, with_records}
pub use Rattle.mt_log.specs.declared.lines.Item.{Item}
pub use Rattle.mt_log.specs.declared.lines.Item.TheVariants.{Check, Dup, Tree}
pub use Rattle.mt_log.specs.declared.lines.Line.{Line}
pub use Rattle.mt_log.specs.declared.lines.Log.{Log}
pub use Rattle.mt_log.specs.declared.transcripts.Entry.{Entry}
pub use Rattle.mt_log.specs.declared.transcripts.Listing.{Listing}
pub use Rattle.mt_log.specs.declared.transcripts.Said.{Said}
pub use Rattle.mt_log.specs.declared.transcripts.Transcript.{Transcript}
pub use Rattle.mt_log.specs.declared.trees.KnownTree.{KnownTree}
pub use Rattle.mt_linearize.specs.Gone.{CountsRanges, HaveGone}
pub use Rattle.mt_linearize.specs.Lines.{lane_behind, phase_behind}
pub use Rattle.mt_linearize.specs.Phases.{Tracked, new_history, new_tracked}
pub use Rattle.mt_linearize.specs.Rooms.{AreDoneEach, answers_joined, asked_of_lane, lanes_of, take_turns}
pub use Rattle.mt_linearize.specs.Tracks.{Pairs, Ran}
pub use Rattle.mt_lanes.specs.declared.lanes.Lane.{Lane}
pub use Rattle.mt_desks.specs.Dealing.{IsOnePhase, counts_in, is_join, is_step, lanes_in, lines_of_lane, room_of, steps_in}
pub use Rattle.mt_desks.specs.Desks.{AreAnsweredUnless, AreLines, IsSomeWorn, SharedTree}
pub use Rattle.mt_desks.specs.Phases.{AtEach}
pub use Rattle.mt_desks.specs.declared.desks.LaneDesk.{LaneDesk}

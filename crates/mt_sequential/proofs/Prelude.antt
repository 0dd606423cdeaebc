-- What the proofs beside this file take from the toolchain, from the crates below and from this crate's definitions, under one name. Declares nothing.
pub use Rattle.std.proofs.Common.{All, Bool, List, None, Option, Some, [], ap, append_assoc, arith, drop, false, get_or, insert, length, length-append, map, option_map, option_to_list, refl, remove, slice_get, slice_set, subst, suc, sym, take, true, zero, ℕ, ◌++◌, ◌+◌, ◌-◌, ◌<◌, ◌∙◌, ◌∷◌, ◌≡◌}
pub use Rattle.mt_base.proofs.Std.{All-nil, All-push, All-set, All-weaker, AllByRecursion, append-nil, map-append, recursion_from_All, take_more}
pub use Rattle.mt_log.specs.Names.{AreDone, AreScanSteps, Asked, Call, Called, CopyOf, Counted, Declared, Empty, History, IsInPlace, IsMade, IsReadable, IsRun, Kind, Limits, Looked, NamesBelow, Query, Range, Record, ScanGoesOnFrom, Step, answer, declared_by, entry_of, find_at, last_map, listings_of, most_lanes, phase_after, place_after, place_within, renamed, shown, stepped_after, stepped_from, steps_of, trees_of}
pub use Rattle.mt_log.specs.declared.lines.Item.{Item}
pub use Rattle.mt_log.specs.declared.lines.Item.TheVariants.{Ask, Check, Dup, Join, Lane, Scan, Tree, Write}
pub use Rattle.mt_log.specs.declared.lines.Line.{Line}
pub use Rattle.mt_log.specs.declared.lines.Log.{Log}
pub use Rattle.mt_log.specs.declared.names.Word.{Word}
pub use Rattle.mt_log.specs.declared.transcripts.Entry.{Entry}
pub use Rattle.mt_log.specs.declared.transcripts.Transcript.{Transcript}
pub use Rattle.mt_log.specs.declared.trees.KnownTree.{KnownTree}
pub use Rattle.mt_linearize.proofs.Answered.{limits_next, made_is_next}
pub use Rattle.mt_linearize.proofs.Played.{as_declared, as_large, call_played, copy_played, count_played, nothing_played, phase_played, played_is_run, read_played, tree_played}
pub use Rattle.mt_linearize.proofs.Stretches.{asked_more, done_append, line_lane, line_named, line_placed, phase_more, stepped_more, trees_more}
pub use Rattle.mt_linearize.specs.Lines.{asked_by, lane_behind, phase_behind}
pub use Rattle.mt_linearize.specs.OneThread.{HasPlayed, IsNext, MayLimit, step_of_line, with_call}
pub use Rattle.mt_linearize.specs.Phases.{new_history}
pub use Rattle.mt_sequential.specs.Playing.{AreBoth, Calls, Checks, Copies, Does, HasHistory, IsCalledWithin, IsDeclaredSo, IsPlayed, IsPlayedBy, PlayerState, ReadsOnly, TreeState, entries_behind, listing_of, read_entry, scan_entries, with_entry}

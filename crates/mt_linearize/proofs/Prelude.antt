-- What the proofs beside this file take from the toolchain, from the crates below and from this crate's definitions, under one name. Declares nothing.
pub use Rattle.std.proofs.Common.{Bool, IfSome, IsPermutation, IsSome, List, None, Option, Some, [], ap, append_assoc, arith, cond, false, fold, get_or, if◌then◌else◌, inl, inr, length, length-append, map, max, nat_lt, option_to_list, refl, slice_get, slice_set, subst, suc, sym, take, true, zero, ℕ, ◌&&◌, ◌++◌, ◌+◌, ◌-◌, ◌/◌, ◌<◌, ◌==◌, ◌||◌, ◌↔◌, ◌∙◌, ◌∷◌, ◌≡◌, ◌≢◌, ◌≤◌, ◌⊎◌}
pub use Rattle.mt_base.proofs.Std.{All, All-from_recursion, All-push, AllByRecursion, AllPairs, AllPairs-cons, Contains, IsPermutation-cons, IsPermutation-map, IsPermutation-refl, IsPermutation-trans, append-nil, cases_Bool, cons_option, enumerate_from, eq-eqb, eqb-false, eqb-true, filter, filter-append, filter_map, filter_map-append, flat_map, fold-append, get_or_at, get_or_from_slice_get, le-leb, le-ltb, length-map, length-map-range_with_len, length-range_with_len, length-set, length_permutation, list_any, list_any-append, lt-ltb, map-append, ne_eqb, or_left, or_right, range_with_len, recursion_from_All, slice_get-get_or, slice_get-map, slice_get_within, take-append-le, take_all}
pub use Rattle.mt_base.proofs.Lemmas.{all_join, begins_long, begins_none, begins_on, each_once, flat_same, grows_none, grows_on, learned_grows, one_more, place_left, place_taken, saw_grows, still_short, was_acted}
pub use Rattle.mt_log.specs.Names.{AreDone, AreInPlaceFrom, AreLegalFrom, AreNamedFrom, AreScanSteps, Begins, Call, Clear, Holder, IsInPlace, IsLegal, IsMade, IsReadable, IsRefused, IsRun, IsShort, IsTrueOf, Learned, NamesBelow, NamesReader, NumbersRiseFrom, OpensAs, Query, Reply, ScanGoesOnFrom, Shortage, StandsIn, acted, answer, asked_from, count_after, declared_by, entry_of, find_at, holder_in, is_call, is_read_by, least_behind, listings_of, map_after, most_lanes, most_rows, numbered_on, one_call_more, place_after, place_within, places_from, record_in, renamed, step_of, stepped_after, stepped_from, steps_of, trees_from, trees_of}
pub use Rattle.mt_log.specs.declared.lines.Item.{Item}
pub use Rattle.mt_log.specs.declared.lines.Item.TheVariants.{Ask, Check, Dup, Join, Lane, Scan, Tree, Write}
pub use Rattle.mt_log.specs.declared.lines.Log.{Log}
pub use Rattle.mt_log.specs.declared.transcripts.Transcript.{Transcript}
pub use Rattle.mt_log.specs.declared.trees.KnownTree.{KnownTree}
pub use Rattle.mt_linearize.specs.Gone.{CountsRanges, HaveGone, IsPhaseGone, OnlySaw, sum_below}
pub use Rattle.mt_linearize.specs.Leads.{Does, Leads, Learns, by_lane_on, outcomes_of}
pub use Rattle.mt_linearize.specs.Lines.{asked_by, lane_behind, phase_behind}
pub use Rattle.mt_linearize.specs.OneThread.{AreLimits, HasPlayed, IsNext, MayLimit, informed, known_to_all, step_of_line, with_call}
pub use Rattle.mt_linearize.specs.Phases.{Counts, IsPhase, IsPhaseOn, Tracked, histories_of, new_history, new_tracked}
pub use Rattle.mt_linearize.specs.Prelude.{Asked, Called, CopyOf, Counted, Declared, Empty, Follows, Grows, History, IsAnswered, IsDone, IsHeldRightly, IsSettled, Kind, Knows, Limits, Line, Looked, Opening, Opens, Outcome, Pass, Range, Read, Record, Said, Saw, Settled, Step, Wrote, calls_before, holder_of, is_answered, is_read, lane_after, lane_of, last_map, limits_after, map_at, new_pass, phase_after, places, with_records}
pub use Rattle.mt_linearize.specs.Rooms.{AreDoneEach, answers_joined, asked_of_lane, lanes_of, rooms_behind, take_turns}
pub use Rattle.mt_linearize.specs.Tracks.{CountsAt, HasBegun, IsPlaced, IsRecordAt, On, OrderOn, OwnCalls, OwnReads, Pairs, Ran, StandsInHistory, TellsUpTo, Tracks, call_number, numbers_of, reads_on}

-- What the proofs beside this file take from the toolchain, from the crates below and from this crate's definitions, under one name. Declares nothing.
pub use Rattle.std.proofs.Common.{Bool, Err, Global, IfOk, List, None, Ok, OnOk, Option, Result, Some, Vec, [], ap, append_assoc, arith, drop, drop-cons, false, get_or, inl, inr, length, length-append, length-drop, length-take, map, max, option_map, option_to_list, refl, rules, slice_get, slice_range, slice_set, subst, suc, sym, take, true, zero, ℕ, ◌&&◌, ◌*◌, ◌++◌, ◌+◌, ◌-◌, ◌/◌, ◌<◌, ◌==◌, ◌∙◌, ◌∷◌, ◌≡◌, ◌≢◌, ◌≤◌, ◌⊎◌}
pub use Rattle.mt_base.proofs.Std.{All, All-append, All-from_recursion, All-nil, All-push, AllByRecursion, append-nil, cases_Bool, cases_eq, cases_lt, drop_more, eq-eqb, false≢true, get_or-map, get_or-set_other, get_or-set_same, get_or_default, get_or_from_slice_get, length-map, length-set, map-append, map-set, map-set_same, ne_eqb, on_ok_weaker, range_with_len, recursion_from_All, slice_get-get_or, slice_get-map, slice_get_read, slice_get_within, take-append-drop, take-append-le, take_all, take_more}
pub use Rattle.std.specs.Vec.{vec_capacity, vec_len, with_item, with_items}
pub use Rattle.std.specs.Vec.Iter.{into_iter_items}
pub use Rattle.mt_base.proofs.Goings.{begins_long, begins_on}
pub use Rattle.mt_log.specs.Names.{Asked, Begins, Called, CopyOf, Counted, Declared, Empty, IsReadable, Looked, NamesBelow, Outcome, Record, Saw, count_after, declared_by, listings_of, most_calls, most_lanes, stepped_after, stepped_from, trees_from}
pub use Rattle.mt_log.specs.declared.lines.Item.TheVariants.{Ask, Join, Scan, Write}
pub use Rattle.mt_linearize.proofs.Counting.{map_stays}
pub use Rattle.mt_linearize.proofs.FewCalls.{lines_of_lanes, sum_upto}
pub use Rattle.mt_linearize.proofs.Knowing.{leads_onward}
pub use Rattle.mt_linearize.proofs.LanePasses.{all_at, some_at}
pub use Rattle.mt_linearize.proofs.LanesPhase.{lanes_phase}
pub use Rattle.mt_linearize.proofs.Leading.{learns_none}
pub use Rattle.mt_log.proofs.PlacesSet.{set_here}
pub use Rattle.mt_linearize.proofs.Lists.{every, same_some}
pub use Rattle.mt_linearize.proofs.Running.{phase_ran, ran_is_run}
pub use Rattle.mt_linearize.proofs.Starting.{copy_ran, empty_ran, new_is_settled, still}
pub use Rattle.mt_linearize.proofs.Stretches.{asked_behind, asked_more, done_append, lane_more, phase_append, phase_more, stepped_more, stretch_apart, trees_behind, trees_more}
pub use Rattle.mt_linearize.proofs.Totals.{lanes_calls, seen_begins, seen_within, stay}
pub use Rattle.mt_linearize.specs.Gone.{IsPhaseGone, OnlySaw, sum_below}
pub use Rattle.mt_linearize.specs.Leads.{Does, Leads, outcomes_of}
pub use Rattle.mt_linearize.specs.OneThread.{step_of_line}
pub use Rattle.mt_linearize.specs.Phases.{IsPhase, histories_of}
pub use Rattle.mt_linearize.specs.Tracks.{numbers_of}
pub use Rattle.mt_desks.proofs.Alone.{all_its_own, in_order}
pub use Rattle.mt_desks.proofs.Answered.{none_worn}
pub use Rattle.mt_desks.proofs.Asking.{counts_first, own_asked, same_phase}
pub use Rattle.mt_desks.proofs.Laning.{all_placed, few_lanes, lanes_before, lanes_behind, some_lane, steps_lanes}
pub use Rattle.mt_desks.proofs.Linked.{answers_told}
pub use Rattle.mt_desks.proofs.Naming.{all_named, own_lines, phase_named, phase_placed}
pub use Rattle.mt_desks.specs.Dealing.{asked_of, is_count}
pub use Rattle.mt_desks.specs.Desks.{DeskState, desk_of}
pub use Rattle.mt_desks.specs.Phases.{CanPass, FromEach, IsLaid, LaneWent, pass_at}
pub use Rattle.mt_desks.specs.Turns.{in_turn, room_at}
pub use Rattle.mt_replay.specs.Counts.{AreCounts, IsCountOf}
pub use Rattle.mt_replay.specs.Images.{IsImageOfRun}
pub use Rattle.mt_replay.specs.Lanes.{AreLanesFor, AreManned, AreSettled, CanDo, HaveGoneBy, HaveRun, IsLaneFor, IsPassAt, IsPhaseBehind, room_before}
pub use Rattle.mt_replay.specs.Makes.{AreMade, BeginAs, IsMade, declared_kind, kinds_in}
pub use Rattle.mt_replay.specs.Phases.{NoJoinBetween}
pub use Rattle.mt_replay.specs.Players.{BeginsPhase, Checks, Copies, HasImage, HasRanges, IsBegun, IsBetweenPhases, IsClosed, IsCopyIn, IsPhaseBegun, IsPlayed, IsPlayedBy, IsSeated, PlayerState, player_state, rows_known, tracked_in}
pub use Rattle.mt_replay.specs.Prelude.{AreAnsweredUnless, AreDone, AreDoneEach, AreInPlaceFrom, AreNamedFrom, AtEach, Check, CountsRanges, Dup, Entry, HaveGone, History, IsImageOfMap, IsOnePhase, IsRun, IsSettled, IsSomeWorn, Item, Kind, KnownTree, Lane, LaneDesk, Line, Listing, Log, Pairs, Pass, Ran, Range, Settled, SharedTree, Step, Tracked, Transcript, Tree, answers_joined, asked_of_lane, counts_in, entry_of, is_join, is_step, lane_after, lane_behind, lanes_in, lanes_of, last_map, lines_of_lane, map_at, new_history, new_pass, new_tracked, phase_behind, renamed, steps_in, steps_of, take_turns, trees_of, with_records}
pub use Rattle.mt_replay.specs.Trees.{AreAll, IsNewTree, seen_by, tracked_of}
pub use Rattle.mt_replay.specs.Turns.{AllTurned, AreTurned, PhaseTurned, done_behind}
pub use Rattle.mt_replay.specs.declared.players.Player.{Player}

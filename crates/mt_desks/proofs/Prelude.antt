-- What the proofs beside this file take from the toolchain, from the crates below and from this crate's definitions, under one name. Declares nothing.
pub use Rattle.std.proofs.Common.{Bool, Bor, Global, List, None, Option, Some, Vec, [], ap, append_assoc, arith, drop, drop-cons, false, get_or, inl, inr, length, length-append, map, max, option_map, option_to_list, refl, slice_get, slice_set, subst, suc, sym, take, true, vec_capacity, vec_len, zero, ℕ, ◌&&◌, ◌*◌, ◌++◌, ◌+◌, ◌-◌, ◌<◌, ◌==◌, ◌∙◌, ◌∷◌, ◌≡◌, ◌≢◌, ◌≤◌, ◌⊎◌}
pub use Rattle.mt_base.proofs.Std.{All-from_recursion, AllByRecursion, and_parts, append-nil, cases_Bool, cases_eq, cases_lt, eq-eqb, eqb-false, eqb-true, false≢true, filter, filter_map-append, get_or-map, get_or-set_other, get_or-set_same, get_or_default, get_or_from_slice_get, length-map, length-set, map-append, map-set, ne_eqb, recursion_from_All, slice_get-get_or, slice_get-map, slice_get_read, slice_get_within, take-append-le, take_all, true≢false}
pub use Rattle.std.proofs.lemmas.List.Concat.{flat_map-append}
pub use Rattle.mt_base.proofs.Lemmas.{all_join, begins_long}
pub use Rattle.mt_log.specs.Names.{AreInPlaceFrom, AreNamedFrom, Called, Declared, IsInPlace, IsReadable, Looked, Outcome, Saw, asked_from, count_after, declared_by, is_answered, lane_of, most_lanes, phase_after, place_behind, place_within, step_of, stepped_from, trees_from, trees_of}
pub use Rattle.mt_log.specs.declared.lines.Item.TheVariants.{Tree}
pub use Rattle.mt_linearize.proofs.FewCalls.{line_calls, lines_of_lanes, numbers_long_on}
pub use Rattle.mt_linearize.proofs.Knowing.{leads_onward}
pub use Rattle.mt_linearize.proofs.Leading.{leads_last, leads_on, leads_one, learns_none, saw_learns, stands_otherwise}
pub use Rattle.mt_linearize.proofs.LineSteps.{done_each}
pub use Rattle.mt_log.proofs.PlacesSet.{set_here, set_there}
pub use Rattle.mt_linearize.proofs.Lists.{both, every, same_some}
pub use Rattle.mt_linearize.proofs.Stretches.{named_there, next_lane, one_declared, placed_there}
pub use Rattle.mt_linearize.proofs.Totals.{sum_same}
pub use Rattle.mt_linearize.specs.Gone.{sum_below}
pub use Rattle.mt_linearize.specs.Leads.{Does, Learns, by_lane_on}
pub use Rattle.mt_linearize.specs.Lines.{lane_behind}
pub use Rattle.mt_linearize.specs.Rooms.{AreDoneEach, asked_of_lane, lanes_of, rooms_behind, take_turns}
pub use Rattle.mt_linearize.specs.Tracks.{Pairs, numbers_of}
pub use Rattle.mt_lanes.specs.Lanes.{CanRun, Chain, EachPlace}
pub use Rattle.mt_lanes.specs.declared.lanes.Lane.{Lane}
pub use Rattle.mt_desks.specs.Dealing.{IsOnePhase, asked_of, counts_in, is_count, is_join, is_step, lanes_in, line_tree, lines_of_lane, room_for, room_of, steps_in}
pub use Rattle.mt_desks.specs.Desks.{AreAnsweredUnless, AreLines, DeskDid, DeskState, IsDeskReady, IsDoneOn, IsDoneUnless, IsLineDone, IsManned, IsSomeWorn, LaneRan, SharedTree, StillManned, desk_of}
pub use Rattle.mt_desks.specs.Passing.{AllHaveSwapped, HasSwapped}
pub use Rattle.mt_desks.specs.Phases.{CanPass, IsLaid, LaneWent, pass_at}
pub use Rattle.mt_desks.specs.Prelude.{AreScanSteps, Ask, Asked, Check, Dup, Entry, History, IsDone, Item, Join, Leads, Line, NamesBelow, Pass, Query, Range, Scan, Step, Write, answers_joined, entry_of, find_at, lane_after, outcomes_of, place_after, stepped_after}
pub use Rattle.mt_desks.specs.Scans.{IsLooked, IsScanDone, KeepsOne}
pub use Rattle.mt_desks.specs.Turns.{RoomsHold, first_entries, front_len, in_turn, rest_of, room_at}
pub use Rattle.mt_desks.specs.Walks.{HasWalkedOn, OpensOnce, Walk, opened_at}
pub use Rattle.mt_desks.specs.declared.desks.LaneDesk.{LaneDesk}

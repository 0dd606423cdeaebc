-- What the lanes of a phase make of a player's trees and entries, and what they await of the phase's lines.
-- Source: this project's own.
use Rattle.std.specs.Prelude.{◌≡◌, ◌≢◌, ◌+◌, ◌<◌, ◌≤◌, ◌++◌, ℕ, zero, suc, Some, None, false, All, List, [], length, map, slice_get, slice_index_or, vec_len, vec_capacity, Vec}
use Rattle.std.specs.Global.{Global}
use Rattle.mt_replay.specs.Prelude.{Pass, Settled, Line, Entry, AreInPlaceFrom, Step, entry_of, AreNamedFrom, trees_of, HaveGone, lane_behind, phase_behind, asked_of_lane, AreDoneEach, take_turns, lanes_of, answers_joined, Pairs, Lane, LaneDesk, IsOnePhase, lanes_in, lines_of_lane, room_of, steps_in, AreAnsweredUnless, AreLines, IsSomeWorn, SharedTree, AtEach, most_calls, most_lanes}
use Rattle.mt_replay.specs.Players.{rows_known}
use Rattle.mt_replay.specs.Trees.{AreAll, seen_by}

-- this lane's pass (handle) in the row of the tree of this number
pub record IsPassAt (rows : List (List Pass)) (number lane : ℕ) (p : Pass) : Type 0 where
  pub row : List Pass
  pub row_is : slice_get rows number ≡ Some row
  pub pass_is : slice_get row lane ≡ Some p

-- The lanes (threads) of a phase have run. Each went with its handle on each tree through its answers, or a tree took no more
-- calls of it. The answers were put after the earlier ones, in the order of the log.
pub record HaveRun (phase : ℕ) (lines : List Line) (trees : List SharedTree) (rows rows' : List (List Pass)) (entries entries' : List Entry) : Type 0 where
  pub answers : ℕ → List (List Step)
  pub passes : ℕ → List Pass
  pub passes_are : (lane number : ℕ) (p : Pass) → slice_get (passes lane) number ≡ Some p → IsPassAt rows' number lane p
  pub answered : (lane : ℕ) → AreAnsweredUnless (IsSomeWorn trees (passes lane)) (asked_of_lane lane (steps_in 0 phase lines)) (answers lane)
  pub count : length rows' ≡ length rows
  pub gone : (number : ℕ) (tree : SharedTree) (before between : List Pass) → slice_get trees number ≡ Some tree → slice_get rows number ≡ Some before → slice_get rows' number ≡ Some between → HaveGone number tree.history answers before between
  pub told : ((lane : ℕ) → AreDoneEach (asked_of_lane lane (steps_in 0 phase lines)) (answers lane)) → entries' ≡ entries ++ map entry_of (answers_joined (take_turns (lanes_of (steps_in 0 phase lines)) answers))

-- All handles of each tree were settled.
pub record AreSettled (trees : List SharedTree) (rows rows' : List (List Pass)) : Type 0 where
  pub count : length rows' ≡ length rows
  pub each : (number : ℕ) (tree : SharedTree) (between after : List Pass) → slice_get trees number ≡ Some tree → slice_get rows number ≡ Some between → slice_get rows' number ≡ Some after → Settled (seen_by tree.history after) between after

-- These lines are a phase of this number, after the lines in front, for this many lanes.
pub record IsPhaseBehind (lanes phase : ℕ) (front lines : List Line) : Type 0 where
  pub one : IsOnePhase lines
  pub named : AreNamedFrom (length (trees_of front)) lines
  pub placed : AreInPlaceFrom false lines
  pub numbered : Pairs (λ (a b : Line). b.number ≢ a.number) lines
  pub lanes_are : lanes_in 0 lines ≤ lanes
  pub lane_is : lane_behind 0 front ≡ 0
  pub phase_is : phase_behind 0 front ≡ phase
  pub few : length front + length lines < most_calls

-- ---- the desks of the lanes

-- A lane of this number in this phase, at its desk, which is to do these lines of its own. Its room has the earlier answers,
-- and is large enough for all answers of the lines.
pub record IsLaneFor {R P T : Type 0} (trees : List T) (phase : ℕ) (own : List Line) (told : List Entry) (number : ℕ) (l : Lane (LaneDesk R P T)) : Type 0 where
  pub number_is : l.lane ≡ number
  pub steps : l.steps ≡ length own
  pub lane : l.desk.lane ≡ number
  pub phase_is : l.desk.phase ≡ phase
  pub trees_are : l.desk.trees.now ≡ trees
  pub lines_are : l.desk.lines.all ≡ own
  pub left_is : l.desk.lines.left ≡ own
  pub passes : vec_len l.desk.passes ≡ length trees
  pub told_is : l.desk.room.items ≡ told
  pub roomy : vec_len l.desk.room + room_of own ≤ vec_capacity l.desk.room

-- what is in a lane's room before it starts: the first lane's room has what it is given
abbrev pub room_before : List Entry → ℕ → List Entry
room_before first zero = first
room_before first (suc lane) = []

-- each lane is at its desk
abbrev pub AreLanesFor : {R P T : Type 0} → List T → ℕ → List Line → List Entry → List (Lane (LaneDesk R P T)) → Type 0
AreLanesFor trees phase lines first lanes = AtEach (λ number l. IsLaneFor trees phase (lines_of_lane number 0 lines) (room_before first number) number l) lanes

-- ---- what the lanes await

-- In each row sit all handles of the tree beside it, and none has a section open.
pub record AreManned {P T : Type 0} (knows : P → Pass) (serves : T → P → Type 0) (passes : ℕ) (trees : List T) (seats : List (Vec P Global)) : Type 0 where
  pub count : length seats ≡ length trees
  pub all : (at : ℕ) (t : T) (row : Vec P Global) → at < length trees → AreAll knows serves passes (slice_index_or trees at t) (slice_index_or seats at row).items
  pub closed : (at : ℕ) (row : Vec P Global) → at < length trees → All (λ p. (knows p).standing ≡ None) (slice_index_or seats at row).items

-- This many lanes can do these lines of a phase, on this many trees.
pub record CanDo (lanes trees : ℕ) (lines : List Line) : Type 0 where
  pub some : 1 ≤ lanes
  pub few : lanes ≤ most_lanes
  pub lanes_are : lanes_in 0 lines ≤ lanes
  pub own : (lane : ℕ) → AreLines trees (lines_of_lane lane 0 lines)
  pub numbered : Pairs (λ (a b : Line). b.number ≢ a.number) lines
  pub short : length lines < most_calls

-- The lanes of a phase have run, and then all handles of each tree were settled.
pub record HaveGoneBy {P T : Type 0} (tree : T → SharedTree) (knows : P → Pass) (serves : T → P → Type 0) (passes phase : ℕ) (lines : List Line) (trees : List T) (seats seats' : List (Vec P Global)) (entries entries' : List Entry) : Type 0 where
  pub between : List (List Pass)
  pub run : HaveRun phase lines (map tree trees) (rows_known knows seats) between entries entries'
  pub settled : AreSettled (map tree trees) between (rows_known knows seats')
  pub manned : AreManned knows serves passes trees seats'

-- What answering its lines does to a lane's desk. Each line is done by the lane's pass (handle) on its tree, and its answer
-- follows what the room held.
-- Source: this project's own.
use Rattle.std.specs.Prelude.{◌≡◌, ◌⊎◌, ℕ, true, List, [], ◌∷◌, ◌++◌, Some, None, ◌+◌, ◌<◌, ◌≤◌, All, length, map, take, drop, slice_get, slice_index_or}
use Rattle.mt_desks.specs.Prelude.{History, Pass, Line, Entry, Asked, Step, IsDone, entry_of, NamesBelow, Leads, outcomes_of, answers_joined}
use Rattle.mt_desks.specs.Dealing.{asked_of, is_step, room_of}

-- a tree that several share: its history so far, and how many calls it takes at most
pub record SharedTree : Type 0 where
  pub history : History
  pub most : ℕ

-- one of these handles has seen as many calls as its tree takes
pub record IsSomeWorn (trees : List SharedTree) (passes : List Pass) : Type 0 where
  pub number : ℕ
  pub tree : SharedTree
  pub pass : Pass
  pub tree_is : slice_get trees number ≡ Some tree
  pub pass_is : slice_get passes number ≡ Some pass
  pub all_taken : tree.most ≤ length pass.seen

-- these steps are what came of a line, or it has none, as a tree took no more calls
abbrev pub IsDoneUnless : Type 0 → Asked → List Step → Type 0
IsDoneUnless worn a steps = IsDone a a.item steps ⊎ (worn × (steps ≡ []))

abbrev pub AreAnsweredUnless : Type 0 → List Asked → List (List Step) → Type 0
AreAnsweredUnless worn [] [] = Unit {0}
AreAnsweredUnless worn (a ∷ asked) (steps ∷ answers) = IsDoneUnless worn a steps × AreAnsweredUnless worn asked answers
AreAnsweredUnless worn asked answers = ⊥

-- a line that was done on the tree of this number
pub record IsDoneOn (tree : SharedTree) (number : ℕ) (a : Asked) (p q : Pass) (room room' : List Entry) : Type 0 where
  pub steps : List Step
  pub done : IsDoneUnless (tree.most ≤ length q.seen) a steps
  pub leads : Leads tree.history p (outcomes_of number a.lane steps) q
  pub told : room' ≡ room ++ map entry_of steps

-- a line that was done, among all trees
pub record IsLineDone (trees : List SharedTree) (a : Asked) (passes passes' : List Pass) (room room' : List Entry) : Type 0 where
  pub steps : List Step
  pub done : IsDoneUnless (IsSomeWorn trees passes') a steps
  pub count : length passes' ≡ length passes
  pub leads : (number : ℕ) (tree : SharedTree) (p q : Pass) → slice_get trees number ≡ Some tree → slice_get passes number ≡ Some p → slice_get passes' number ≡ Some q → Leads tree.history p (outcomes_of number a.lane steps) q
  pub told : room' ≡ room ++ map entry_of steps

-- ---- a desk

-- a lane's desk: its lane and phase, the trees, its lines, its handle on each tree, and its room
pub record DeskState : Type 0 where
  pub lane : ℕ
  pub phase : ℕ
  pub trees : List SharedTree
  pub lines : List Line
  pub passes : List Pass
  pub room : List Entry

abbrev pub desk_of : {P T : Type 0} → (T → SharedTree) → (P → Pass) → (lane phase : ℕ) → List T → List Line → List P → List Entry → DeskState
desk_of tree knows lane phase trees lines passes room = record { lane = lane; phase = phase; trees = map tree trees; lines = lines; passes = map knows passes; room = room }

-- the desk answered the line of this number, counted from 0
pub record DeskDid (a : DeskState) (s : ℕ) (b : DeskState) : Type 0 where
  pub kept : b ≡ record a { passes = b.passes; room = b.room }
  pub line : Line
  pub line_is : slice_get a.lines s ≡ Some line
  pub did : IsLineDone a.trees (asked_of a.lane a.phase line) a.passes b.passes a.room b.room

-- The desk answered its first n lines, each once and in order.
pub record LaneRan (n : ℕ) (a b : DeskState) : Type 0 where
  pub kept : b ≡ record a { passes = b.passes; room = b.room }
  pub answers : List (List Step)
  pub answered : AreAnsweredUnless (IsSomeWorn a.trees b.passes) (map (asked_of a.lane a.phase) (take n a.lines)) answers
  pub count : length b.passes ≡ length a.passes
  pub leads : (number : ℕ) (tree : SharedTree) (p q : Pass) → slice_get a.trees number ≡ Some tree → slice_get a.passes number ≡ Some p → slice_get b.passes number ≡ Some q → Leads tree.history p (outcomes_of number a.lane (answers_joined answers)) q
  pub told : b.room ≡ a.room ++ map entry_of (answers_joined answers)

-- ---- what a desk awaits

-- there is a handle for each tree, and none has a section open
pub record IsManned {P T : Type 0} (knows : P → Pass) (serves : T → P → Type 0) (trees : List T) (passes : List P) : Type 0 where
  pub count : length passes ≡ length trees
  pub closed : All (λ p. (knows p).standing ≡ None) passes
  pub serves_all : (i : ℕ) (t : T) (p : P) → i < length trees → serves (slice_index_or trees i t) (slice_index_or passes i p)

-- and so it stays, with the same trees
pub record StillManned {P T : Type 0} (knows : P → Pass) (serves : T → P → Type 0) (trees trees' : List T) (passes' : List P) : Type 0 where
  pub trees_stay : trees' ≡ trees
  pub manned : IsManned knows serves trees' passes'

-- lines that a lane can do on this many trees
abbrev pub AreLines : ℕ → List Line → Type 0
AreLines count lines = All (λ line. NamesBelow count line.item × (is_step line.item ≡ true)) lines

-- a desk that is ready for the line of this number: the lines from it on are left, and there is room for all their answers
pub record IsDeskReady {P T : Type 0} (knows : P → Pass) (serves : T → P → Type 0) (trees : List T) (lines left : List Line) (s : ℕ) (passes : List P) (used capacity : ℕ) : Type 0 where
  pub manned : IsManned knows serves trees passes
  pub lines_of : AreLines (length trees) lines
  pub left_is : left ≡ drop s lines
  pub roomy : used + room_of (drop s lines) ≤ capacity

-- What a player has done with the first lines of a log, phase by phase: its trees, all their passes (handles), and the answers.
-- Source: this project's own.
use Rattle.std.specs.Prelude.{◌≡◌, ◌<◌, ◌≤◌, ℕ, All, List, [], ◌∷◌, ◌++◌, Some, None, length, map, slice_get, slice_index_or, Vec}
use Rattle.std.specs.Global.{Global}
use Rattle.mt_replay.specs.Prelude.{Kind, Range, last_map, Pass, IsSettled, most_rows, IsImageOfMap, Item, Tree, Dup, Check, Line, Entry, Said, KnownTree, Step, AreDone, entry_of, steps_of, renamed, trees_of, CountsRanges, Tracked, new_tracked, Ran, counts_in, SharedTree, fewest_rows, most_calls}
use Rattle.mt_log.specs.declared.transcripts.Said.TheVariants as said
use Rattle.mt_replay.specs.declared.players.Player.{Player}
use Rattle.mt_replay.specs.Counts.{AreCounts}
use Rattle.mt_replay.specs.Trees.{AreAll, IsNewTree, player_passes, tracked_of}

-- how many nodes and handles each tree has; the declared trees, with their names and as they are; and the entries (answers)
pub record PlayerState : Type 0 where
  pub rows : ℕ
  pub passes : ℕ
  pub known : List KnownTree
  pub trees : List Tracked
  pub entries : List Entry

-- These lines were played, and these steps came of them: all phases below this one are over.
pub record IsPlayedBy (phase : ℕ) (lines : List Line) (p : PlayerState) (steps : List Step) : Type 0 where
  pub ran : Ran p.passes p.rows phase (trees_of lines) steps p.trees
  pub done : AreDone (steps_of lines) steps
  pub told : p.entries ≡ map entry_of steps
  pub known : p.known ≡ map (λ d. d.tree) (trees_of lines)
  pub few : All (λ t. length t.history.records ≤ length lines) p.trees

-- ---- the trees and the seats of their handles

-- each tree as its handles, which sit in the row beside it, have seen it
abbrev pub tracked_in : List SharedTree → List (List Pass) → List Tracked
tracked_in [] rows = []
tracked_in (t ∷ trees) [] = []
tracked_in (t ∷ trees) (row ∷ rows) = tracked_of t row ∷ tracked_in trees rows

-- what is known of the handles of each row
abbrev pub rows_known : {P : Type 0} → (P → Pass) → List (Vec P Global) → List (List Pass)
rows_known knows seats = map (λ row. map knows row.items) seats

-- a player as it is now
abbrev pub player_state : {P T : Type 0} → (T → SharedTree) → (P → Pass) → Player P T → PlayerState
player_state tree knows p = record { rows = p.rows; passes = p.passes; known = p.known.items; trees = tracked_in (map tree p.trees.items) (rows_known knows p.seats.items); entries = p.entries.items }

-- Each tree has a name, and a row of seats in which all its handles sit. It takes as many calls as a tree may have.
pub record IsSeated {P T : Type 0} (tree : T → SharedTree) (knows : P → Pass) (serves : T → P → Type 0) (many : T → ℕ) (p : Player P T) : Type 0 where
  pub few_rows : fewest_rows ≤ p.rows
  pub rows : p.rows ≤ most_rows
  pub some_pass : 1 ≤ p.passes
  pub passes : p.passes ≤ player_passes
  pub names : length p.known.items ≡ length p.trees.items
  pub count : length p.seats.items ≡ length p.trees.items
  pub many_are : All (λ t. many t ≡ p.passes) p.trees.items
  pub most : All (λ t. (tree t).most ≡ most_calls) p.trees.items
  pub all : (at : ℕ) (t : T) (row : Vec P Global) → at < length p.trees.items → AreAll knows serves p.passes (slice_index_or p.trees.items at t) (slice_index_or p.seats.items at row).items

-- no handle of the tree has a section open
abbrev pub IsClosed : Tracked → Type 0
IsClosed t = All (λ p. p.standing ≡ None) t.passes

-- And between two phases all handles of each tree are settled, none has a section open, and the ranges of each tree were
-- counted after some of its calls.
pub record IsBetweenPhases {P T : Type 0} (tree : T → SharedTree) (knows : P → Pass) (serves : T → P → Type 0) (many : T → ℕ) (p : Player P T) : Type 0 where
  pub seated : IsSeated tree knows serves many p
  pub settled : All (λ t. IsSettled t.history t.passes) (tracked_in (map tree p.trees.items) (rows_known knows p.seats.items))
  pub closed : All IsClosed (tracked_in (map tree p.trees.items) (rows_known knows p.seats.items))
  pub counted : AreCounts (tracked_in (map tree p.trees.items) (rows_known knows p.seats.items)) p.counts.items

-- the bytes are an image of the tree of this number
pub record HasImage (p : PlayerState) (number : ℕ) (bytes : List ℕ) : Type 0 where
  pub tree : Tracked
  pub tree_is : slice_get p.trees number ≡ Some tree
  pub image : IsImageOfMap tree.history.kind (last_map tree.history) bytes

-- this holds of the ranges of the tree of this number
pub record HasRanges (p : PlayerState) (number : ℕ) (P : List Range → Type 0) : Type 0 where
  pub tree : Tracked
  pub tree_is : slice_get p.trees number ≡ Some tree
  pub holds : P (last_map tree.history)

-- a new tree with its handles, which opens as the tree of this number is
pub record IsCopyIn (p : PlayerState) (number : ℕ) (t : SharedTree) (passes : List Pass) : Type 0 where
  pub source : Tracked
  pub source_is : slice_get p.trees number ≡ Some source
  pub new : IsNewTree source.history.kind source.history.rows (last_map source.history) p.passes t passes

-- ---- lines that declare, copy and check trees

abbrev pub with_entry : PlayerState → ℕ → Said → List Entry
with_entry p line what = p.entries ++ record { line = line; said = what } ∷ []

-- A tree of this name and kind was added, which is empty and of which no call was made.
abbrev pub OpensTree : PlayerState → PlayerState → List ℕ → Kind → Type 0
OpensTree old new name kind = new ≡ record old { known = old.known ++ record { name = name; kind = kind } ∷ []; trees = old.trees ++ new_tracked old.passes old.rows kind [] ∷ [] }

-- A copy of a tree, as it is, was added under this name. The answer is how many ranges the copy has.
pub record Copies (old new : PlayerState) (line from : ℕ) (name : List ℕ) : Type 0 where
  pub named : KnownTree
  pub source : Tracked
  pub named_is : slice_get old.known from ≡ Some named
  pub source_is : slice_get old.trees from ≡ Some source
  pub made : new ≡ record old {
    known = old.known ++ renamed name named ∷ [];
    trees = old.trees ++ new_tracked old.passes source.history.rows source.history.kind (last_map source.history) ∷ [];
    entries = with_entry old line (said.Copied (length (last_map source.history)));
  }

-- A tree was checked. The answer is how many ranges it has. The trees are as they were.
pub record Checks (old new : PlayerState) (line tree : ℕ) : Type 0 where
  pub checked : Tracked
  pub tree_is : slice_get old.trees tree ≡ Some checked
  pub made : new ≡ record old { entries = with_entry old line (said.Lawful (length (last_map checked.history))) }

-- What the line of this number makes of a player as a phase begins. A line that neither declares nor copies nor checks a tree
-- leaves it as it is.
abbrev pub BeginsPhase : PlayerState → PlayerState → ℕ → Item → Type 0
BeginsPhase old new line (Tree name kind) = OpensTree old new name kind
BeginsPhase old new line (Dup from name) = Copies old new line from name
BeginsPhase old new line (Check tree) = Checks old new line tree
BeginsPhase old new line item = new ≡ old

-- ---- what came of lines

abbrev pub IsPlayed : ℕ → List Line → PlayerState → Type 0
IsPlayed phase lines p = (steps : List Step) × IsPlayedBy phase lines p steps

-- The lines in front were played, in the phases below this one. Of these lines of this phase, the trees were declared, copied
-- and checked, and no lane has started. The answers are those of the steps of the lines in front, and then the counts.
pub record IsPhaseBegun (phase : ℕ) (front lines : List Line) (p : PlayerState) (steps counted : List Step) : Type 0 where
  pub ran : Ran p.passes p.rows phase (trees_of (front ++ lines)) steps p.trees
  pub done : AreDone (steps_of front) steps
  pub counted_are : AreDone (counts_in phase lines) counted
  pub each : All (λ s. CountsRanges p.trees s) counted
  pub told : p.entries ≡ map entry_of (steps ++ counted)
  pub known : p.known ≡ map (λ d. d.tree) (trees_of (front ++ lines))
  pub few : All (λ t. length t.history.records ≤ length front) p.trees

abbrev pub IsBegun : ℕ → List Line → List Line → PlayerState → List Step → Type 0
IsBegun phase front lines p steps = (counted : List Step) × IsPhaseBegun phase front lines p steps counted

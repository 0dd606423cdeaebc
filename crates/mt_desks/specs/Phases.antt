-- What running the lanes of a phase does to each tree's passes (handles), and to a lane's desk.
-- Source: this project's own.
use Rattle.std.specs.Prelude.{◌≡◌, ◌<◌, ◌≤◌, ◌^◌, ◌+◌, ℕ, Some, None, List, length, slice_get, slice_index_or}
use Rattle.mt_desks.specs.Prelude.{Pass, Line}
use Rattle.mt_desks.specs.Dealing.{room_of}
use Rattle.mt_desks.specs.Desks.{AreLines, DeskState, LaneRan}

-- each at its place, and each at its place before and after
abbrev pub AtEach : {X : Type 0} → (ℕ → X → Type 0) → List X → Type 0
AtEach {X} P xs = (place : ℕ) (none : X) → place < length xs → P place (slice_index_or xs place none)

abbrev pub FromEach : {X : Type 0} → (ℕ → X → X → Type 0) → List X → List X → Type 0
FromEach {X} R xs ys = (place : ℕ) (none : X) → place < length xs → R place (slice_index_or xs place none) (slice_index_or ys place none)

-- this lane's handle on the tree of this number
abbrev pub pass_at : {P V : Type 0} → (V → List P) → List V → (tree lane : ℕ) → V → P → P
pass_at items rows tree lane v p = slice_index_or (items (slice_index_or rows tree v)) lane p

-- a lane that can run: it is to do all its lines, of which it did none, and there is room for what they are answered
pub record IsLaid (steps trees : ℕ) (lines left : List Line) (passes used capacity : ℕ) : Type 0 where
  pub all : steps ≡ length lines
  pub turns : steps ≤ 2 ^ 63
  pub lines_of : AreLines trees lines
  pub left_is : left ≡ lines
  pub passes_of : passes ≡ trees
  pub roomy : used + room_of lines ≤ capacity

-- the lane's handle on each tree is one of that tree's, and has no section open
pub record CanPass {P T V : Type 0} (knows : P → Pass) (serves : T → P → Type 0) (items : V → List P) (lane : ℕ) (trees : List T) (rows : List V) : Type 0 where
  pub count : length rows ≡ length trees
  pub closed : (tree : ℕ) (v : V) (p : P) → tree < length rows → (knows (pass_at items rows tree lane v p)).standing ≡ None
  pub serves_all : (tree : ℕ) (t : T) (v : V) (p : P) → tree < length rows → serves (slice_index_or trees tree t) (pass_at items rows tree lane v p)

-- A lane did its first n lines. It had the handles in the rows before, and the rows have them afterwards. Its desk is seen
-- without its handles.
pub record LaneWent {P V : Type 0} (knows : P → Pass) (items : V → List P) (lane n : ℕ) (rows rows' : List V) (desk desk' : DeskState) : Type 0 where
  pub before : List Pass
  pub after : List Pass
  pub ran : LaneRan n (record desk { passes = before }) (record desk' { passes = after })
  pub count : length before ≡ length rows
  pub taken : (tree : ℕ) (v : V) (p : P) → tree < length rows → slice_get before tree ≡ Some (knows (pass_at items rows tree lane v p))
  pub given : (tree : ℕ) (v : V) (p : P) → tree < length rows → slice_get after tree ≡ Some (knows (pass_at items rows' tree lane v p))

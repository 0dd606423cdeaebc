-- Which of a phase's lines a lane does, how much room their answers take, and how many steps.
-- Source: this project's own, the language of logs.
use Rattle.std.specs.Prelude.{◌≡◌, ℕ, Bool, All, List, [], ◌∷◌, ◌+◌, ◌*◌, ◌==◌, ◌&&◌, if◌then◌else◌, false, max, true}
use Rattle.mt_desks.specs.Prelude.{Item, Join, Dup, Check, Write, Ask, Scan, Line, stepped_after, Asked, lane_after}

-- a line that a lane does: a call, a query or a scan
abbrev pub is_step : Item → Bool
is_step item = stepped_after false item

-- the lines that this lane does, from here on, if the log is in the lane `here`
abbrev pub lines_of_lane : (lane here : ℕ) → List Line → List Line
lines_of_lane lane here [] = []
lines_of_lane lane here (line ∷ lines) =
    let rest = lines_of_lane lane (lane_after here line.item) lines in
    if is_step line.item && (here == lane) then line ∷ rest else rest

-- the lines that a lane does: all of them, and those that it has yet to do
pub record Owned : Type 0 where
  pub all : List Line
  pub left : List Line

-- a line as what a lane is asked in a phase
abbrev pub asked_of : ℕ → ℕ → Line → Asked
asked_of lane phase line = record { line = line.number; lane = lane; phase = phase; item = line.item }

-- what these lines of a phase ask of the lanes, each line of the lane that the log is in
abbrev pub steps_in : (here phase : ℕ) → List Line → List Asked
steps_in here phase [] = []
steps_in here phase (line ∷ lines) =
    let rest = steps_in (lane_after here line.item) phase lines in
    if is_step line.item then asked_of here phase line ∷ rest else rest

-- a line that no lane does: a tree is copied or checked before the lanes of its phase start
abbrev pub is_count : Item → Bool
is_count (Dup from name) = true
is_count (Check tree) = true
is_count item = false

-- what these lines ask of the program itself, which counts as lane 0's
abbrev pub counts_in : (phase : ℕ) → List Line → List Asked
counts_in phase [] = []
counts_in phase (line ∷ lines) =
    let rest = counts_in phase lines in
    if is_count line.item then asked_of 0 phase line ∷ rest else rest

-- lines of one phase: a line that ends a phase is not among them
abbrev pub is_join : Item → Bool
is_join Join = true
is_join item = false

abbrev pub IsOnePhase : List Line → Type 0
IsOnePhase lines = All (λ line. is_join line.item ≡ false) lines

-- how many lanes a log has, from here on, if it is in the lane `here`: one more than the greatest that does a line, and one if
-- none does
abbrev pub lanes_in : (here : ℕ) → List Line → ℕ
lanes_in here [] = 1
lanes_in here (line ∷ lines) =
    let rest = lanes_in (lane_after here line.item) lines in
    if is_step line.item then max (here + 1) rest else rest

-- the tree on which a lane does a line
abbrev pub line_tree : Item → ℕ
line_tree (Write tree call) = tree
line_tree (Ask tree query) = tree
line_tree (Scan tree index max count) = tree
line_tree item = 0

-- how many answers a line has at most: a scan as many as its count, which may end before
abbrev pub room_for : Item → ℕ
room_for (Write tree call) = 1
room_for (Ask tree query) = 1
room_for (Scan tree index max count) = count
room_for item = 0

-- how many steps without the lock a line takes at most: a call none, and a scan one more than its finds, to close its section
abbrev pub steps_for : Item → ℕ
steps_for (Ask tree query) = 360
steps_for (Scan tree index max count) = 220 * count + 1
steps_for item = 0

abbrev pub room_of : List Line → ℕ
room_of [] = 0
room_of (line ∷ lines) = room_for line.item + room_of lines

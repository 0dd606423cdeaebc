-- How what the lanes were answered, each in a room of its own, is put back in the order of the log.
-- Source: this project's own.
use Rattle.std.specs.Prelude.{ℕ, List, [], ◌∷◌, ◌++◌, ◌==◌, take, drop, map, filter, flat_map, if◌then◌else◌}
use Rattle.mt_linearize.specs.Prelude.{Asked, Step, IsDone}

-- what one lane is asked
abbrev pub asked_of_lane : ℕ → List Asked → List Asked
asked_of_lane lane asked = filter (λ a. a.lane == lane) asked

-- these are the steps that came of each line, one line after another
abbrev pub AreDoneEach : List Asked → List (List Step) → Type 0
AreDoneEach [] [] = Unit {0}
AreDoneEach (a ∷ asked) (steps ∷ answers) = IsDone a a.item steps × AreDoneEach asked answers
AreDoneEach asked answers = ⊥

-- the rooms after the first answer was taken from this lane's room
abbrev pub rooms_behind : {X : Type 0} → ℕ → (ℕ → List X) → ℕ → List X
rooms_behind lane rooms other = if other == lane then drop 1 (rooms other) else rooms other

-- one answer after another, each from the room of the lane that is named
abbrev pub take_turns : {X : Type 0} → List ℕ → (ℕ → List X) → List X
take_turns [] rooms = []
take_turns (lane ∷ lanes) rooms = take 1 (rooms lane) ++ take_turns lanes (rooms_behind lane rooms)

abbrev pub lanes_of : List Asked → List ℕ
lanes_of asked = map (λ a. a.lane) asked

abbrev pub answers_joined : List (List Step) → List Step
answers_joined answers = flat_map (λ steps. steps) answers

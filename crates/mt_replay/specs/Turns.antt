-- Which turns of the gate the lanes of a log take.
-- Source: this project's own, the language of logs.
use Rattle.std.specs.Prelude.{◌≡◌, ◌<◌, ◌+◌, ◌*◌, ◌==◌, ◌&&◌, ℕ, true, List, [], ◌∷◌, length, if◌then◌else◌}
use Rattle.mt_replay.specs.Prelude.{Item, Line, lane_after, is_join, is_step, lines_of_lane}

-- each lane took both turns of each of its lines of a phase
abbrev pub PhaseTurned : (ℕ → ℕ → Type 0) → List Line → Type 0
PhaseTurned passed lines = (lane number : ℕ) → number < 2 * length (lines_of_lane lane 0 lines) → passed lane number

-- how many steps of its phase a lane has done after a line, given how many each had done before: a join begins a new phase
abbrev pub done_behind : (here : ℕ) → (ℕ → ℕ) → Item → ℕ → ℕ
done_behind here done item = λ lane. if is_join item then 0 else if is_step item && (here == lane) then done lane + 1 else done lane

-- Each of these lines that is a step, if the log is in the lane `here` and each lane has done `done` steps of its phase. The
-- lane took the turns before and after it, which for its step s are those of the numbers 2s and 2s + 1.
abbrev pub AreTurned : (ℕ → ℕ → Type 0) → (here : ℕ) → (ℕ → ℕ) → List Line → Type 0
AreTurned passed here done [] = Unit {0}
AreTurned passed here done (line ∷ lines) =
    (is_step line.item ≡ true → passed here (2 * done here) × passed here (2 * done here + 1)) × AreTurned passed (lane_after here line.item) (done_behind here done line.item) lines

-- each step of a log was done by a lane that took both its turns
abbrev pub AllTurned : (ℕ → ℕ → Type 0) → List Line → Type 0
AllTurned passed lines = AreTurned passed 0 (λ lane. 0) lines

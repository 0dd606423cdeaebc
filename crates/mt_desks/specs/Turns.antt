-- How the entries of the lanes' rooms are put back in the order of the log. For each line that a lane does, the entries for it
-- are taken from the front of the lane's room.
-- Source: this project's own.
use Rattle.std.specs.Prelude.{◌≡◌, ℕ, List, [], ◌∷◌, ◌++◌, ◌==◌, ◌<◌, length, map, take, drop, slice_index_or, slice_set, if◌then◌else◌}
use Rattle.std.specs.List.{prefix_len}
use Rattle.mt_desks.specs.Prelude.{Entry, Line, Step, entry_of, lane_after, answers_joined}
use Rattle.mt_desks.specs.Dealing.{is_step}

-- how many entries at the front of a room are for a line
abbrev pub front_len : ℕ → List Entry → ℕ
front_len line room = prefix_len (λ e. e.line == line) room

abbrev pub first_entries : ℕ → List Entry → List Entry
first_entries line room = take (front_len line room) room

abbrev pub rest_of : ℕ → List Entry → List Entry
rest_of line room = drop (front_len line room) room

abbrev pub room_at : List (List Entry) → ℕ → List Entry
room_at rooms lane = slice_index_or rooms lane []

-- what is put back for each of these lines, if the log is in the lane `here`
abbrev pub in_turn : (here : ℕ) → List Line → List (List Entry) → List Entry
in_turn here [] rooms = []
in_turn here (line ∷ lines) rooms =
    let next = lane_after here line.item in
    if is_step line.item then first_entries line.number (room_at rooms here) ++ in_turn next lines (slice_set rooms here (rest_of line.number (room_at rooms here))) else in_turn next lines rooms

-- the rooms hold what the lanes were answered
abbrev pub RoomsHold : List (List Entry) → (ℕ → List (List Step)) → Type 0
RoomsHold rooms answers = (lane : ℕ) → lane < length rooms → room_at rooms lane ≡ map entry_of (answers_joined (answers lane))

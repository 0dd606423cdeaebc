-- Numbers drawn in turn on an empty tree (cyclic allocation), each given back after more draws, and the result of that in one
-- line.
-- Source: this project's own; a draw is the kernel's mtree_alloc_cyclic.
use Rattle.std.specs.Prelude.{◌≡◌, ℕ, ◌+◌, ◌-◌, nat_lt, List, [], ◌∷◌, ◌++◌, Option, Some, None, length, codes, if◌then◌else◌, decimal}
use Rattle.std.specs.List.{fold, range_with_len, slice_get}
use Rattle.std.specs.Option.{option_flatten, unwrap_or}
use Rattle.mt_base.specs.declared.kinds.Kind.TheVariants as kinds
use Rattle.mt_commands.specs.Prelude.{Range, Erase, acted, over, Found, position_behind, drawn, Draws, new_draws}

-- The number of each draw so far, if it gave one; the first and the last number; how often the window began again; and how
-- often no number was free.
pub record Tally : Type 0 where
  pub numbers : List (Option ℕ)
  pub first : Option ℕ
  pub last : Option ℕ
  pub wraps : ℕ
  pub busy : ℕ

abbrev pub no_tally : Tally
no_tally = record { numbers = []; first = None; last = None; wraps = 0; busy = 0 }

-- a tally that is kept, with room for this many more draws
pub record Kept : Type 0 where
  pub tally : Tally
  pub room : ℕ

abbrev pub or_this : Option ℕ → ℕ → Option ℕ
or_this None s = Some s
or_this (Some first) s = Some first

-- a draw more
abbrev pub tallied : Tally → Option Found → Tally
tallied t None = record t { numbers = t.numbers ++ None ∷ []; busy = t.busy + 1 }
tallied t (Some f) = record t {
  numbers = t.numbers ++ Some f.at ∷ [];
  first = or_this t.first f.at;
  last = Some f.at;
  wraps = t.wraps + (if f.wrapped then 1 else 0);
}

-- the number that is given back after this many draws
abbrev pub number_due : ℕ → List (Option ℕ) → Option ℕ
number_due drops numbers = if nat_lt drops (length numbers) then option_flatten (slice_get numbers (length numbers - drops - 1)) else None

-- the map and the position after a draw for this entry
abbrev pub map_behind : ℕ → List Range → Option Found → List Range
map_behind entry m None = m
map_behind entry m (Some f) = over m f.at f.at entry

abbrev pub draws_behind : Draws → Option Found → Draws
draws_behind d None = d
draws_behind d (Some f) = position_behind d f.at

-- the map after a number was given back, if one was
abbrev pub map_without : List Range → Option ℕ → List Range
map_without m None = m
map_without m (Some s) = (acted kinds.Alloc m (Erase s)).0

-- the map, the position, and what was drawn
pub record Turns : Type 0 where
  pub map : List Range
  pub draws : Draws
  pub tally : Tally

abbrev pub new_turns : ℕ → ℕ → Turns
new_turns lo hi = record { map = []; draws = new_draws lo hi; tally = no_tally }

-- a turn: a draw, and a number given back
abbrev pub turn_with : ℕ → ℕ → Turns → Option Found → Turns
turn_with drops n t found =
    let tally = tallied t.tally found in
    record { map = map_without (map_behind (4096 + n) t.map found) (number_due drops tally.numbers); draws = draws_behind t.draws found; tally = tally }

-- the n-th turn
abbrev pub turn : ℕ → Turns → ℕ → Turns
turn drops t n = turn_with drops n t (drawn kinds.Alloc t.map t.draws)

abbrev pub turns : ℕ → ℕ → ℕ → ℕ → Turns
turns lo hi steps drops = fold (turn drops) (new_turns lo hi) (range_with_len 1 steps)

-- the tally, in print
abbrev pub tally_text : ℕ → Tally → List ℕ
tally_text steps t =
    codes "ids " ++ (decimal steps
    ++ (codes " first " ++ (decimal (unwrap_or t.first 0)
    ++ (codes " last " ++ (decimal (unwrap_or t.last 0)
    ++ (codes " wraps " ++ (decimal t.wraps
    ++ (codes " busy " ++ decimal t.busy))))))))

-- the line of this many draws from a window
abbrev pub ids_text : ℕ → ℕ → ℕ → ℕ → List ℕ
ids_text lo hi steps drops = tally_text steps (turns lo hi steps drops).tally ++ 10 ∷ []

abbrev pub IsIdsText : ℕ → ℕ → ℕ → ℕ → List ℕ → Type 0
IsIdsText lo hi steps drops text = text ≡ ids_text lo hi steps drops

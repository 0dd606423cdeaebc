-- The log that is made from a number (the seed): `steps` steps on one tree, divided among `lanes` lanes (threads).
-- Source: this project's own.
use Rattle.std.specs.Prelude.{ℕ, zero, suc, List, [], ◌∷◌, ◌++◌, ◌+◌, ◌-◌, ◌/◌, ◌%◌, ◌==◌, nat_le, nat_lt, codes, if◌then◌else◌}
use Rattle.mt_workload.specs.Prelude.{Call, Store, Erase, Alloc, Ralloc, Load, Find, Item, Tree, Lane, Write, Ask, Scan, Line, Log}
use Rattle.mt_base.specs.declared.kinds.Kind.TheVariants as kinds
use Rattle.mt_workload.specs.Draws.{Drawing, draw_below, given, ◌>>=◌}

-- the greatest index that is asked for
abbrev pub last_index : ℕ
last_index = 4194303

-- an area's size and an entry
unfoldable pub drawn_size : Drawing ℕ
drawn_size = draw_below 509 >>= λ s. given (s + 4)

unfoldable pub drawn_entry : Drawing ℕ
drawn_entry = draw_below 1000000 >>= λ e. given (e + 4096)

-- a step that stores an entry where there is room
unfoldable pub area_step : (ℕ → ℕ → ℕ → ℕ → Call) → Drawing Item
area_step call = do
  size ← drawn_size
  entry ← drawn_entry
  given (Write 0 (call size 0 last_index entry))

-- a step that stores an entry over a range
unfoldable pub store_step : Drawing Item
store_step = do
  first ← draw_below 4190000
  size ← drawn_size
  entry ← drawn_entry
  given (Write 0 (Store first (first + size - 1) entry))

-- a step at an index
unfoldable pub index_step : (ℕ → Item) → Drawing Item
index_step item = do
  index ← draw_below 4194304
  given (item index)

-- the step that a number below 16 means
unfoldable pub step_by : ℕ → Drawing Item
step_by d =
    if nat_le d 5 then area_step Alloc
    else (if d == 6 then area_step Ralloc
    else (if d == 7 then store_step
    else (if nat_le d 9 then index_step (λ index. Write 0 (Erase index))
    else (if nat_le d 13 then index_step (λ index. Ask 0 (Load index))
    else (if d == 14 then index_step (λ index. Ask 0 (Find index last_index))
    else index_step (λ index. Scan 0 index last_index 4))))))

unfoldable pub step : Drawing Item
step = do
  d ← draw_below 16
  step_by d

-- `n` steps
unfoldable pub steps : ℕ → Drawing (List Item)
steps zero = given []
steps (suc more) = do
  item ← step
  items ← steps more
  given (item ∷ items)

-- how many steps a lane has, if `steps` are divided among `lanes`
unfoldable pub steps_of_lane : ℕ → ℕ → ℕ → ℕ
steps_of_lane all lanes lane = if nat_lt lane (all % lanes) then all / lanes + 1 else all / lanes

-- `n` lanes from this one on, each a line that names it and its steps
unfoldable pub lanes_from : (ℕ → ℕ) → ℕ → ℕ → Drawing (List Item)
lanes_from count lane zero = given []
lanes_from count lane (suc more) = do
  items ← steps (count lane)
  others ← lanes_from count (lane + 1) more
  given (Lane lane ∷ items ++ others)

-- lines that say these things, numbered from this number on
abbrev pub numbered : ℕ → List Item → List Line
numbered number [] = []
numbered number (item ∷ items) = record { number = number; item = item } ∷ numbered (number + 1) items

-- the log of a number (seed)
unfoldable pub made : ℕ → ℕ → ℕ → Log
made number all lanes = record { version = 1; lines = numbered 2 (Tree (codes "a") kinds.Alloc ∷ (lanes_from (steps_of_lane all lanes) 0 lanes number).0) }

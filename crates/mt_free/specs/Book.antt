-- The book of a tree's nodes. A node is free, or out (live), or held: replaced by a call, and not yet free again.
-- Source: this project's own; the kernel frees nodes by read-copy-update, after a grace period.
use Rattle.std.specs.Prelude.{◌≢◌, ℕ, zero, suc, ◌+◌, ◌-◌, ◌<◌, ◌≤◌, List, [], ◌∷◌, ◌++◌, All, AllPairs, Contains, length, map, filter, nat_lt, nat_le}
use Rattle.mt_base.specs.Width.{first_row, most_rows}

-- a held node, and the number of the call that replaced it
pub record StampedRow : Type 0 where
  pub row : ℕ
  pub stamp : ℕ

-- how many nodes there are, the free ones (the last is taken first), and the held ones, in the order of their stamps
pub record Book : Type 0 where
  pub rows : ℕ
  pub free : List ℕ
  pub held : List StampedRow

-- `n` nodes, from the last one down
abbrev pub rows_down : ℕ → List ℕ
rows_down zero = []
rows_down (suc n) = (first_row + n) ∷ rows_down n

abbrev pub IsRowOf : Book → ℕ → Type 0
IsRowOf b row = (first_row ≤ row) × (row < first_row + b.rows)

abbrev pub held_rows : Book → List ℕ
held_rows b = map (λ h. h.row) b.held

-- a node that is out: it was taken, and not retired since
pub record IsOut (b : Book) (row : ℕ) : Type 0 where
  pub here : IsRowOf b row
  pub not_free : ¬ Contains b.free row
  pub not_held : ¬ Contains (held_rows b) row

-- how many nodes are out
abbrev pub live_count : Book → ℕ
live_count b = b.rows - (length b.free + length b.held)

-- what holds of every book: no node is in it twice, and stamps do not fall
pub record IsBook (b : Book) : Type 0 where
  pub few : b.rows ≤ most_rows
  pub counted : length b.free + length b.held ≤ b.rows
  pub free_rows : All (IsRowOf b) b.free
  pub waiting_rows : All (λ h. IsRowOf b h.row) b.held
  pub once : AllPairs (λ r s. r ≢ s) (b.free ++ held_rows b)
  pub in_order : AllPairs (λ g h. g.stamp ≤ h.stamp) b.held

-- a book of `n` nodes, all free
abbrev pub new_book : ℕ → Book
new_book rows = record { rows = rows; free = rows_down rows; held = [] }

abbrev pub after_retire : Book → ℕ → ℕ → Book
after_retire b row stamp = record { rows = b.rows; free = b.free; held = b.held ++ record { row = row; stamp = stamp } ∷ [] }

-- the held nodes that were replaced by the call `least` at the latest, and those replaced later
abbrev pub reclaimable : ℕ → List StampedRow → List StampedRow
reclaimable least held = filter (λ h. nat_le h.stamp least) held

abbrev pub still_held : ℕ → List StampedRow → List StampedRow
still_held least held = filter (λ h. nat_lt least h.stamp) held

abbrev pub after_reclaim : Book → ℕ → Book
after_reclaim b least = record { rows = b.rows; free = b.free ++ map (λ h. h.row) (reclaimable least b.held); held = still_held least b.held }

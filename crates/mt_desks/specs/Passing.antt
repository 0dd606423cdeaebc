-- How the passes (handles) of each tree change places with those at the lanes' desks.
-- Source: this project's own.
use Rattle.std.specs.Prelude.{◌≡◌, ◌<◌, ◌≤◌, ℕ, List, length, slice_index_or, slice_set}

-- At each of the first trees, this lane's handle and the lane's own changed places. All others stay.
pub record HasSwapped {P V : Type 0} (items : V → List P) (lane below : ℕ) (rows rows' : List V) (passes passes' : List P) : Type 0 where
  pub count : length rows' ≡ length rows
  pub passes_of : length passes' ≡ length passes
  pub long : (tree : ℕ) (v : V) → length (items (slice_index_or rows' tree v)) ≡ length (items (slice_index_or rows tree v))
  pub back : (tree : ℕ) (v : V) (p : P) → tree < below → items (slice_index_or rows' tree v) ≡ slice_set (items (slice_index_or rows tree v)) lane (slice_index_or passes tree p)
  pub out : (tree : ℕ) (v : V) (p : P) → tree < below → slice_index_or passes' tree p ≡ slice_index_or (items (slice_index_or rows tree v)) lane p
  pub rows_left : (tree : ℕ) (v : V) → below ≤ tree → slice_index_or rows' tree v ≡ slice_index_or rows tree v
  pub passes_left : (tree : ℕ) (p : P) → below ≤ tree → slice_index_or passes' tree p ≡ slice_index_or passes tree p

-- At each tree, the handles of the first lanes and those at their desks changed places. All others stay.
pub record AllHaveSwapped {P V L : Type 0} (items : V → List P) (passes : L → List P) (below : ℕ) (rows rows' : List V) (lanes lanes' : List L) : Type 0 where
  pub count : length rows' ≡ length rows
  pub lane_count : length lanes' ≡ length lanes
  pub long : (tree : ℕ) (v : V) → length (items (slice_index_or rows' tree v)) ≡ length (items (slice_index_or rows tree v))
  pub wide : (lane : ℕ) (l : L) → length (passes (slice_index_or lanes' lane l)) ≡ length (passes (slice_index_or lanes lane l))
  pub back : (tree lane : ℕ) (v : V) (l : L) (p : P) → tree < length rows → lane < below → slice_index_or (items (slice_index_or rows' tree v)) lane p ≡ slice_index_or (passes (slice_index_or lanes lane l)) tree p
  pub out : (tree lane : ℕ) (v : V) (l : L) (p : P) → tree < length rows → lane < below → slice_index_or (passes (slice_index_or lanes' lane l)) tree p ≡ slice_index_or (items (slice_index_or rows tree v)) lane p
  pub rows_left : (tree lane : ℕ) (v : V) (p : P) → below ≤ lane → slice_index_or (items (slice_index_or rows' tree v)) lane p ≡ slice_index_or (items (slice_index_or rows tree v)) lane p
  pub lanes_left : (lane : ℕ) (l : L) → below ≤ lane → slice_index_or lanes' lane l ≡ slice_index_or lanes lane l

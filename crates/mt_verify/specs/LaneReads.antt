-- The reads of one lane on one tree, in the steps of a run or in a text, with their numbers.
-- Source: this project's own.
use Rattle.std.specs.Prelude.{◌≡◌, ℕ, ◌==◌, List, Option, Some, None, slice_get, if◌then◌else◌, filter_map}
use Rattle.mt_verify.specs.Prelude.{History, map_at, Outcome, Called, Looked, Counted, Step, shown, ToldLine, What, Wrote, Got, Copied, Lawful}
use Rattle.mt_verify.specs.declared.looks.ToldRead.{ToldRead}
use Rattle.mt_verify.specs.Looks.{ArePicked}
use Rattle.mt_verify.specs.Points.{point_of}

abbrev pub look_of : Outcome → Option ToldRead
look_of (Called number call reply) = None
look_of (Looked lo hi k query value) = Some (record { lo = lo; hi = hi; query = query; told = shown query value })
look_of (Counted said ranges) = None

-- what a step has, where it is one of this lane on this tree
abbrev pub by_lane : {X : Type 0} → (Outcome → Option X) → ℕ → ℕ → Step → Option X
by_lane f tree lane s = if s.tree == tree then (if s.lane == lane then f s.outcome else None) else None

abbrev pub looks_on : ℕ → ℕ → List Step → List ToldRead
looks_on tree lane steps = filter_map (by_lane look_of tree lane) steps

abbrev pub points_on : ℕ → ℕ → List Step → List ℕ
points_on tree lane steps = filter_map (by_lane point_of tree lane) steps

-- ---- in a text

abbrev pub look_told : What → Option ToldRead
look_told (Wrote number call reply) = None
look_told (Got lo hi query answer) = Some (record { lo = lo; hi = hi; query = query; told = answer })
look_told (Copied count) = None
look_told (Lawful count) = None

-- the read that a line reports, if it is one of this lane on this tree
abbrev pub look_by : ℕ → ℕ → ToldLine → Option ToldRead
look_by tree lane t = if t.tree == tree then (if t.lane == lane then look_told t.what else None) else None

abbrev pub looks_told : ℕ → ℕ → List ToldLine → List ToldRead
looks_told tree lane told = filter_map (look_by tree lane) told

-- ---- which numbers they have

-- each lane's reads on each tree have the first numbers that do, where the lane goes through the tree's maps by itself
abbrev pub LanesArePicked : List Step → List History → Type 0
LanesArePicked steps trees = (tree lane : ℕ) (h : History) → slice_get trees tree ≡ Some h
    → ArePicked (map_at h) (looks_on tree lane steps) (points_on tree lane steps)

-- What holds of a log's trees when its phases below a number have gone by. It goes on from phase to phase, and where no phase
-- is left it is a run of the log.
-- Source: this project's own.
use Rattle.std.specs.Prelude.{◌≡◌, ℕ, Bool, List, [], ◌∷◌, ◌++◌, Option, Some, None, ◌+◌, ◌==◌, ◌<◌, ◌≤◌, ◌&&◌, true, filter_map, length, slice_get}
use Rattle.std.specs.List.{AllByRecursion, Contains, list_any}
use Rattle.mt_linearize.specs.Prelude.{Record, History, IsTrueRead, map_at, Pass, IsSettled, Outcome, Called, Looked, Counted, Step, Follows, Knows, Opens, IsHeldRightly, calls_before, is_read, Opening, Empty, CopyOf, Declared}
use Rattle.mt_linearize.specs.Leads.{outcomes_of}
use Rattle.mt_linearize.specs.Phases.{Tracked, histories_of}

-- ---- what a tree's steps keep

-- R holds of each element and each later one
abbrev pub Pairs : {X : Type 0} → (X → X → Type 0) → List X → Type 0
Pairs R [] = Unit {0}
Pairs R (x ∷ xs) = AllByRecursion (R x) xs × Pairs R xs

-- what holds of the steps on one tree
abbrev pub On : ℕ → (Step → Type 0) → Step → Type 0
On tree P s = s.tree ≡ tree → P s

-- a step that speaks of the first `n` calls only
abbrev pub TellsUpTo : ℕ → Outcome → Type 0
TellsUpTo n (Called number call reply) = number ≤ n
TellsUpTo n (Looked lo hi k query value) = (lo ≤ n) × (hi ≤ n) × (k ≤ n)
TellsUpTo n (Counted said ranges) = Unit {0}

-- of two steps on a tree the later keeps to what it knows of the earlier
abbrev pub OrderOn : ℕ → Step → Step → Type 0
OrderOn tree s t = s.tree ≡ tree → t.tree ≡ tree → Knows s t → Follows s.outcome t.outcome

-- this is the record of this number
pub record IsRecordAt (records : List Record) (number : ℕ) (r : Record) : Type 0 where
  pub front : List Record
  pub rest : List Record
  pub is : records ≡ front ++ r ∷ rest
  pub at : length front + 1 ≡ number

-- the answer of a lane is in the tree's history
abbrev pub StandsInHistory : History → ℕ → Outcome → Type 0
StandsInHistory tree lane (Called number call reply) = IsRecordAt tree.records number (record { pass = lane; call = call; reply = reply })
StandsInHistory tree lane (Looked lo hi k query value) = IsTrueRead tree k lo hi query value
StandsInHistory tree lane (Counted said ranges) = Unit {0}

-- the ranges that were counted are those after the first k calls
abbrev pub CountsAt : History → ℕ → Outcome → Type 0
CountsAt tree k (Called number call reply) = Unit {0}
CountsAt tree k (Looked lo hi at query value) = Unit {0}
CountsAt tree k (Counted said ranges) = ranges ≡ map_at tree k

-- ---- what a tree's handles have of its steps

abbrev pub call_number : Outcome → Option ℕ
call_number (Called number call reply) = Some number
call_number (Looked lo hi k query value) = None
call_number (Counted said ranges) = None

abbrev pub numbers_of : List Outcome → List ℕ
numbers_of outcomes = filter_map call_number outcomes

-- each handle's own calls are those of its lane
abbrev pub OwnCalls : ℕ → List Step → List Pass → Type 0
OwnCalls tree steps passes = (lane : ℕ) (q : Pass) → slice_get passes lane ≡ Some q → q.mine ≡ numbers_of (outcomes_of tree lane steps)

-- and it has opened a section only where its lane has read
abbrev pub reads_on : ℕ → ℕ → Step → Bool
reads_on tree lane s = (s.tree == tree) && ((s.lane == lane) && is_read s.outcome)

abbrev pub OwnReads : ℕ → List Step → List Pass → Type 0
OwnReads tree steps passes = (lane epoch : ℕ) (q : Pass) → slice_get passes lane ≡ Some q → Contains q.opened epoch → list_any (reads_on tree lane) steps ≡ true

-- ---- all trees, between two phases

-- The tree of this number, which has this many handles, after these steps.
pub record Tracks (passes number : ℕ) (steps : List Step) (t : Tracked) : Type 0 where
  pub settled : IsSettled t.history t.passes
  pub count : length t.passes ≡ passes
  pub own : OwnCalls number steps t.passes
  pub readers : OwnReads number steps t.passes
  pub upto : AllByRecursion (On number (λ s. TellsUpTo (length t.history.records) s.outcome)) steps
  pub order : Pairs (OrderOn number) steps
  pub holds : AllByRecursion (On number (λ s. StandsInHistory t.history s.lane s.outcome)) steps
  pub counts : AllByRecursion (On number (λ s. CountsAt t.history (calls_before steps number s.phase) s.outcome)) steps
  pub holders : AllByRecursion (On number (IsHeldRightly steps)) steps

-- a step of a lower phase, by a lane that has a handle
abbrev pub IsPlaced : ℕ → ℕ → Step → Type 0
IsPlaced passes phase s = (s.phase < phase) × (s.lane < passes)

-- a copy's source was copied in a phase that has begun
abbrev pub HasBegun : ℕ → Opening → Type 0
HasBegun phase Empty = Unit {0}
HasBegun phase (CopyOf tree q) = q ≤ phase

-- The trees that were declared so far, each with this many nodes and handles, after the steps of the phases below this one.
pub record Ran (passes rows phase : ℕ) (declared : List Declared) (steps : List Step) (trees : List Tracked) : Type 0 where
  pub count : length trees ≡ length declared
  pub placed : AllByRecursion (IsPlaced passes phase) steps
  pub named : AllByRecursion (λ s. s.tree < length trees) steps
  pub tracks : (tree : ℕ) (t : Tracked) → slice_get trees tree ≡ Some t → Tracks passes tree steps t
  pub sized : (tree : ℕ) (t : Tracked) → slice_get trees tree ≡ Some t → t.history.rows ≡ rows
  pub opened : (tree : ℕ) (d : Declared) (t : Tracked) → slice_get declared tree ≡ Some d → slice_get trees tree ≡ Some t → Opens steps (histories_of trees) d t.history
  pub copied : (tree : ℕ) (d : Declared) → slice_get declared tree ≡ Some d → HasBegun phase d.opening

-- What is found of a text that tells a run: histories of the log's trees, and numbers of the reads.
use Rattle.mt_verify.proofs.Prelude.{◌≡◌, ◌≢◌, ℕ, ◌<◌, ◌≤◌, ◌==◌, ◌&&◌, Bool, true, List, [], Option, Some, None, All, AllPairs, IfSome, IsPermutation, length, map, nat_le, slice_get, AllByRecursion, enumerate_from, filter_map, list_any, Holder, History, IsLegal, map_at, holder_of, Log, Declared, Opening, Empty, CopyOf, trees_of, ToldLine, What, Wrote, Got, Copied, Lawful, calls_of_phases_before, is_got, reads_count, reads_told, own_points, ToldRead, AreLeastOf, InPrintedOrder}
use Rattle.mt_verify.proofs.Filled.{EachLater, IsReadOn, IsRight, ReadsRise, history_in, numbered_in, reply_in}

-- how a history opens: empty, or with the map of another tree after the calls that are told of earlier phases
abbrev pub OpensTold : List ToldLine → List History → Opening → History → Type 0
OpensTold told trees Empty h = h.opening ≡ []
OpensTold told trees (CopyOf tree phase) h = (source : History) × (slice_get trees tree ≡ Some source)
    × (h.kind ≡ source.kind) × (h.opening ≡ map_at source (calls_of_phases_before told tree phase))

-- it is the history of a tree that is declared so
pub record IsOpened (told : List ToldLine) (trees : List History) (d : Declared) (h : History) : Type 0 where
  pub kind : h.kind ≡ d.tree.kind
  pub opening : OpensTold told trees d.opening h

-- a line that is no read is right
abbrev pub IsRightCall : ℕ → History → ℕ → What → Type 0
IsRightCall version h before (Wrote number call reply) = IsRight version h before 0 (Wrote number call reply)
IsRightCall version h before (Got lo hi query told) = Unit {0}
IsRightCall version h before (Copied count) = IsRight version h before 0 (Copied count)
IsRightCall version h before (Lawful count) = IsRight version h before 0 (Lawful count)

pub record IsRightLine (version : ℕ) (trees : List History) (all : List ToldLine) (t : ToldLine) : Type 0 where
  pub tree : t.tree < length trees
  pub right : IsRightCall version (history_in trees t.tree) (calls_of_phases_before all t.tree t.phase) t.what

-- each lane's reads on each tree are reads of its history, and keep the order of their numbers
abbrev pub AllReadsOn : List History → List ToldLine → List ℕ → Type 0
AllReadsOn trees told points = (tree lane : ℕ) → tree < length trees
    → AllByRecursion (IsReadOn (history_in trees tree)) (reads_told tree lane told points)

abbrev pub AllReadsRise : List History → List ToldLine → List ℕ → Type 0
AllReadsRise trees told points = (tree lane : ℕ) → tree < length trees
    → EachLater ReadsRise (reads_told tree lane told points)

-- what a lane is told of its reads on a tree, and their numbers
abbrev pub own_looks : ℕ → ℕ → List ToldLine → List ℕ → List ToldRead
own_looks tree lane told points = map (λ (r : ToldRead × ℕ). r.0) (reads_told tree lane told points)

-- this lane has read the line's tree in a phase that is not later
abbrev pub is_told_read : ℕ → ToldLine → ToldLine → Bool
is_told_read lane t r = (r.lane == lane) && ((r.tree == t.tree) && (nat_le r.phase t.phase && is_got r.what))

-- who holds rows by what the call was answered
abbrev pub holder_told : History → What → Option Holder
holder_told h (Wrote number call reply) = holder_of (reply_in h number)
holder_told h (Got lo hi query told) = None
holder_told h (Copied count) = None
holder_told h (Lawful count) = None

-- where rows were held, another lane held them, which read this tree in a phase that was not later
abbrev pub IsHeldTold : List ToldLine → List History → ToldLine → Type 0
IsHeldTold told trees t =
    IfSome (holder_told (history_in trees t.tree) t.what)
    (λ holder. (holder.pass ≢ t.lane) × (list_any (is_told_read holder.pass t) told ≡ true))

pub record IsFound (log : Log) (rows : ℕ) (told : List ToldLine) (trees : List History) (points : List ℕ) : Type 0 where
  -- each declared tree has a history, from its opening map, and so many rows, in which its calls stand by their numbers
  pub count : length trees ≡ length (trees_of log.lines)
  pub opened : (tree : ℕ) (d : Declared) (h : History) → slice_get (trees_of log.lines) tree ≡ Some d
      → slice_get trees tree ≡ Some h → IsOpened told trees d h
  pub sized : All (λ h. h.rows ≡ rows) trees
  pub once : (tree : ℕ) (h : History) → slice_get trees tree ≡ Some h
      → IsPermutation (enumerate_from 1 h.records) (filter_map (numbered_in h tree) told)
  pub legal : All IsLegal trees
  -- call numbers and windows are in order, phase by phase
  pub order : AllPairs InPrintedOrder told
  pub phases : AllPairs (λ s t. s.phase ≤ t.phase) told
  -- what is told of calls, copies and checks is right, and who held rows
  pub lines : All (IsRightLine log.version trees told) told
  pub holders : All (IsHeldTold told trees) told
  -- the reads of each lane on each tree have these numbers, the least that they may have, and no window ends behind the
  -- last call
  pub numbered : length points ≡ reads_count told
  pub least : (tree lane : ℕ) (h : History) → slice_get trees tree ≡ Some h
      → AreLeastOf (map_at h) (own_looks tree lane told points) (own_points tree lane told points)
  pub within : (tree lane : ℕ) (h : History) → slice_get trees tree ≡ Some h
      → All (λ l. l.hi ≤ length h.records) (own_looks tree lane told points)

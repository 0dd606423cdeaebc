-- What one thread makes of the lines of a log, one after another, over the trees that they declare.
-- Source: this project's own.
use Rattle.std.specs.Prelude.{◌≡◌, ℕ, zero, suc, List, [], ◌∷◌, ◌++◌, Option, Some, None, ◌+◌, ◌≤◌, false, length, map, slice_get, slice_set}
use Rattle.mt_log.specs.declared.lines.Item.{Item}
use Rattle.mt_log.specs.declared.lines.Item.TheVariants.{Tree, Lane, Join, Dup, Check, Write, Ask, Scan}
use Rattle.mt_log.specs.declared.lines.Line.{Line}
use Rattle.mt_log.specs.declared.names.Word.{Word}
use Rattle.mt_log.specs.declared.transcripts.Entry.{Entry}
use Rattle.mt_log.specs.declared.transcripts.Listing.{Listing}
use Rattle.mt_log.specs.declared.transcripts.Said.{Said}
use Rattle.mt_log.specs.declared.transcripts.Said.TheVariants as said
use Rattle.mt_log.specs.Names.{stepped_from, Step, AreDone, entry_of, shown, steps_of, Declared, trees_of, Kind, Range, Call, Query, Reply, answer, History, last_map, Limits, IsMade, one_call_more, find_at, place_after, place_within, most_lanes}
use Rattle.mt_linearize.specs.Lines.{phase_behind}
use Rattle.mt_linearize.specs.OneThread.{HasPlayed, MayLimit}
use Rattle.mt_linearize.specs.Phases.{new_history}

-- ---- maps

-- what a map means: its kind and its ranges, how much of its room for calls is used, and what its nodes are limited by
pub record MapState : Type 0 where
  pub kind : Kind
  pub ranges : List Range
  pub used : ℕ
  pub limits : Option Limits

-- a map before its first call, of this many nodes, which opens with these ranges
pub record IsNewMap (rows : ℕ) (kind : Kind) (ranges : List Range) (m : MapState) : Type 0 where
  pub kind_is : m.kind ≡ kind
  pub opening : m.ranges ≡ ranges
  pub unused : m.used ≡ 0
  pub limits : MayLimit (new_history kind rows ranges) m.limits

-- a copy of a map, before its first call; it has as many nodes as the map has
abbrev pub IsCopyOf : MapState → MapState → Type 0
IsCopyOf m copy = (h : History) → MayLimit h m.limits → IsNewMap h.rows m.kind m.ranges copy

-- ---- trees and players

-- a tree of a player: its name, its map, and how many calls were made of it
pub record TreeState : Type 0 where
  pub name : Word
  pub kind : Kind
  pub map : MapState
  pub calls : ℕ

-- how many nodes a tree has; the trees that were declared so far, in the order of their lines; and the entries (lines) of the
-- transcript
pub record PlayerState : Type 0 where
  pub rows : ℕ
  pub trees : List TreeState
  pub entries : List Entry

abbrev pub with_entry : PlayerState → ℕ → Said → List Entry
with_entry player line what = player.entries ++ record { line = line; said = what } ∷ []

-- a new tree was declared, whose map is new
pub record Declares (rows : ℕ) (name : Word) (kind : Kind) (ranges : List Range) (t : TreeState) : Type 0 where
  pub name_is : t.name ≡ name
  pub kind_is : t.kind ≡ kind
  pub map : IsNewMap rows kind ranges t.map
  pub calls : t.calls ≡ 0

-- a call was made of a tree
pub record IsCalled (t t' : TreeState) (call : Call) (reply : Reply) : Type 0 where
  pub name : t'.name ≡ t.name
  pub kind : t'.kind ≡ t.kind
  pub made : IsMade t.map.kind t.map.limits t.map.ranges call t'.map.ranges reply
  pub map_kind : t'.map.kind ≡ t.map.kind
  pub used : t'.map.used ≤ t.map.used + 1
  pub limits : t'.map.limits ≡ one_call_more t.map.limits
  pub calls : t'.calls ≡ t.calls + 1

-- the entry for a query on a tree: both ends of the window are the number of its calls
abbrev pub read_entry : ℕ → TreeState → Query → Entry
read_entry line t query = record { line = line; said = said.Got t.calls t.calls (shown query (answer t.map.ranges query)) }

-- after a range a scan goes on; otherwise it ends
abbrev pub entries_behind : (Option ℕ → List Entry) → ℕ → Option Range → List Entry
entries_behind entries max None = []
entries_behind entries max (Some r) = entries (place_after max r)

-- the entries for a scan from this place on, of at most this many steps
abbrev pub scan_entries : ℕ → TreeState → ℕ → ℕ → Option ℕ → List Entry
scan_entries line t max zero at = []
scan_entries line t max (suc count) at = read_entry line t (find_at at max) ∷ entries_behind (scan_entries line t max count) max (answer t.map.ranges (find_at at max))

-- a line that declares a copy of a tree, and reports how many ranges it has
pub record Copies (old new : PlayerState) (line from : ℕ) (name : Word) : Type 0 where
  pub source : TreeState
  pub copy : TreeState
  pub from_is : slice_get old.trees from ≡ Some source
  pub declared : (h : History) → MayLimit h source.map.limits → Declares h.rows name source.kind source.map.ranges copy
  pub trees : new.trees ≡ old.trees ++ copy ∷ []
  pub told : new.entries ≡ with_entry old line (said.Copied (length source.map.ranges))

-- a line that checks a tree, and reports how many ranges it has
pub record Checks (old new : PlayerState) (line tree : ℕ) : Type 0 where
  pub checked : TreeState
  pub tree_is : slice_get old.trees tree ≡ Some checked
  pub trees : new.trees ≡ old.trees
  pub told : new.entries ≡ with_entry old line (said.Lawful (length checked.map.ranges))

-- a line that makes a call, and reports its number and reply
pub record Calls (old new : PlayerState) (line tree : ℕ) (call : Call) : Type 0 where
  pub before : TreeState
  pub after : TreeState
  pub reply : Reply
  pub tree_is : slice_get old.trees tree ≡ Some before
  pub called : IsCalled before after call reply
  pub trees : new.trees ≡ slice_set old.trees tree after
  pub told : new.entries ≡ with_entry old line (said.Wrote (before.calls + 1) reply)

-- a line that reads a tree as it is, and reports each read
pub record ReadsOnly (old new : PlayerState) (tree : ℕ) (entries : TreeState → List Entry) : Type 0 where
  pub asked : TreeState
  pub tree_is : slice_get old.trees tree ≡ Some asked
  pub trees : new.trees ≡ old.trees
  pub told : new.entries ≡ old.entries ++ entries asked

-- what the line of this number asks for was done, over trees of this many nodes
abbrev pub Does : ℕ → PlayerState → PlayerState → ℕ → Item → Type 0
Does rows old new line (Tree name kind) = (t : TreeState) × Declares rows name kind [] t × (new ≡ record old { trees = old.trees ++ t ∷ [] })
Does rows old new line (Lane lane) = new ≡ old
Does rows old new line Join = new ≡ old
Does rows old new line (Dup from name) = Copies old new line from name
Does rows old new line (Check tree) = Checks old new line tree
Does rows old new line (Write tree call) = Calls old new line tree call
Does rows old new line (Ask tree query) = ReadsOnly old new tree (λ t. read_entry line t query ∷ [])
Does rows old new line (Scan tree index max count) = ReadsOnly old new tree (λ t. scan_entries line t max count (place_within index max))

-- ---- what came of the lines so far

-- each of the ones is so related to each of the others, at the same place
abbrev pub AreBoth : {X Y : Type 0} → (X → Y → Type 0) → List X → List Y → Type 0
AreBoth R [] [] = Unit {0}
AreBoth R (x ∷ xs) (y ∷ ys) = R x y × AreBoth R xs ys
AreBoth R xs ys = ⊥

-- a player's tree is the tree of this history, so far
pub record HasHistory (t : TreeState) (h : History) : Type 0 where
  pub kind : t.map.kind ≡ h.kind
  pub ranges : t.map.ranges ≡ last_map h
  pub limits : MayLimit h t.map.limits
  pub calls : t.calls ≡ length h.records

-- and it was declared so
pub record IsDeclaredSo (t : TreeState) (d : Declared) : Type 0 where
  pub name : t.name ≡ d.tree.name
  pub kind : t.kind ≡ d.tree.kind

-- These steps of the lines were done and reported, and the player's trees have these histories.
pub record IsPlayedBy (rows : ℕ) (lines : List Line) (player : PlayerState) (steps : List Step) (trees : List History) : Type 0 where
  pub played : HasPlayed most_lanes rows (phase_behind 0 lines) (stepped_from false lines) (trees_of lines) steps trees
  pub done : AreDone (steps_of lines) steps
  pub told : player.entries ≡ map entry_of steps
  pub declared : AreBoth IsDeclaredSo player.trees (trees_of lines)
  pub held : AreBoth HasHistory player.trees trees

abbrev pub IsPlayed : ℕ → List Line → PlayerState → Type 0
IsPlayed rows lines player = (steps : List Step) × (trees : List History) × IsPlayedBy rows lines player steps trees

-- no tree was called more often than there were lines, nor used more than it was called
abbrev pub IsCalledWithin : ℕ → TreeState → Type 0
IsCalledWithin count t = (t.map.used ≤ t.calls) × (t.calls ≤ count)

-- ---- the listings

abbrev pub listing_of : TreeState → Listing
listing_of t = record { name = t.name; kind = t.kind; ranges = t.map.ranges }

-- A call at work on the nodes of a tree: what it begins with, and what it leaves for the lock to protect.
-- Source: this project's own.
use Rattle.std.specs.Prelude.{◌≡◌, ℕ, ◌≤◌, ◌<◌, Option, Some, None, List, [], ◌∷◌, length}
use Rattle.std.specs.List.{AllByRecursion}
use Rattle.atomic_table.specs.declared.badge.Badge.{Badge}
use Rattle.mt_tree.specs.Prelude.{Record, Parts, unscanned, Told, Pass, PenPart, TurnView, IsScanOf, kind_width, records_of, Identity, WasShown, pass_in, turn_seat, seated, tries_in, sheet_told}
use Rattle.mt_base.specs.Passes as known
use Rattle.mt_base.specs.declared.widths.Width.{Width}
use Rattle.mt_tree.specs.declared.behind.Tools.{Tools}
use Rattle.mt_tree.specs.declared.trees.Tree.{Tree}
use Rattle.mt_tree.specs.Behind.{Behind, behind_lock, parts_of, IsAtRest, IsOnlyRead, IsPenAtRest}
use Rattle.mt_tree.specs.Copies.{AreWordsOf}
use Rattle.mt_tree.specs.Trees.{map_seen, opened, passes_of, place_of, steps_made, IsPassOf, Rests}

-- The tools are those that the tree's lock protects, and the handle, one of the tree's, is the one that works with them. It has made
-- this many steps without the lock. The table's words are this wide.
pub record IsWorker (t : Tree) (tools : Option Tools) (p : Pass) (table : Identity) (turn : Badge TurnView) (steps : ℕ) (wide : Width) : Type 0 where
  pub rest : IsAtRest tools
  pub of : (behind_lock tools).table ≡ place_of t
  pub pass : IsPassOf t p
  pub table_is : table ≡ place_of t
  pub turn_is : turn ≡ turn_seat p
  pub counted : steps ≡ steps_made p
  pub wide_is : wide ≡ kind_width table.shape.kind

-- a seat (token) at the tree's turn (writer lock)
pub record IsSeatOf (t : Tree) (turn : Badge TurnView) : Type 0 where
  pub table : turn.table_id ≡ t.turn.table.shared.table_id
  pub views : turn.views ≡ seated t.turn.table.shared.key (tries_in turn.views) ∷ []

-- what a handle knows that has been shown the whole history of the pen
abbrev pub shown_pass : PenPart → known.Pass → known.Pass
shown_pass p q = record q { seen = records_of p.history; ended = length p.history }

-- A call of the handle is at work: these are the nodes with which it began, over the table of the tree, of what its lock protects.
-- The handle, which is then away, was shown the whole history.
pub record AtWork (t : Tree) (i : Identity) (b : Behind) (p : known.Pass) (e : Parts) : Type 0 where
  pub place : i ≡ place_of t
  pub shape : b.pen.shape ≡ i.shape
  pub table : b.table ≡ place_of t
  pub height : ℕ
  pub kept : IsPenAtRest b.pen b.parts height
  pub parts : b.parts ≡ parts_of b.pen b.parts.book
  pub kind : e.kind ≡ b.parts.kind
  pub book : e.book ≡ b.parts.book
  pub sheet : e.sheet ≡ sheet_told i b.pen (shown_pass b.pen p)
  pub shown : WasShown (opened t) b.pen p (shown_pass b.pen p)

-- what a handle knows whose nodes have these records
abbrev pub pass_of_told : Told → known.Pass
pass_of_told t = record { number = t.caller.pass; seen = t.records; mine = known.places t.caller.pass t.records; opened = t.caller.opened; standing = t.caller.standing; begun = t.caller.begun; ended = length t.records }

-- the records of nodes
abbrev pub records_told : Option Told → List Record
records_told None = []
records_told (Some t) = t.records

-- What the lock protects was only read, for a call of the handle, which made no step without the lock and has not gone for it. The
-- handle then knows all calls, and the words represent the map after them.
pub record LookedBehind (t : Tree) (b b' : Behind) (p q : Pass) : Type 0 where
  pub state : IsOnlyRead b b'
  pub of : IsPassOf t q
  pub rests : Rests p q
  pub seen : (pass_in q).seen ≡ records_of b'.pen.history
  pub saw : known.Saw (opened t) (pass_in p) (pass_in q)
  pub words : AreWordsOf (opened t).kind (opened t).rows (map_seen t (pass_in q)) b.parts.sheet.tree

-- What the lock protects was only read, for the handle that holds it: that knows what it knew, made no step without the lock, and has
-- not gone for it again. The words represent the map after all calls.
pub record LookedUnder (t : Tree) (b b' : Behind) (p q : Pass) : Type 0 where
  pub behind : IsOnlyRead b b'
  pub rests : Rests p q
  pub pass : pass_in q ≡ pass_in p
  pub words : AreWordsOf (opened t).kind (opened t).rows (map_seen t (pass_in q)) b.parts.sheet.tree

-- The tools are back under the tree's lock, with these nodes and their book. All calls are of the tree's handles, and the
-- handle knows what its nodes showed. If scans were made, the section words loaded last are those of the last scan. If none was
-- made, no such word was loaded.
pub record AreBack (t : Tree) (e : Parts) (tools : Option Tools) (p : Pass) : Type 0 where
  pub rest : IsAtRest tools
  pub of : (behind_lock tools).table ≡ place_of t
  pub parts : (behind_lock tools).parts ≡ record e { sheet = record (unscanned e.sheet) { told = None } }
  pub pass : IsPassOf t p
  pub sound : known.IsSound (opened t) (pass_in p)
  pub callers : AllByRecursion (λ r. r.pass < passes_of t) (records_of (behind_lock tools).pen.history)
  pub knows : (told : Told) → e.sheet.told ≡ Some told → (pass_in p ≡ pass_of_told told) × (records_of (behind_lock tools).pen.history ≡ told.records)
  pub scanned : 1 ≤ e.sheet.scans → IsScanOf (behind_lock tools).pen.sections (passes_of t) e.sheet.scan
  pub unscanned : e.sheet.scans ≡ 0 → (behind_lock tools).pen.sections ≡ []

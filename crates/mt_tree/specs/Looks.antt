-- What is known of a tree by a look under its lock: how it uses its nodes, since when its sections are open, and the form and
-- the image of its words.
-- Source: this project's own; the kernel frees nodes when every reader has left its RCU read-side section.
use Rattle.std.specs.Prelude.{◌≡◌, ℕ, List, Option, None, Some, Result, IfErr, IfOk, Vec, length, min}
use Rattle.std.specs.Global.{Global}
use Rattle.mt_base.specs.declared.memory.NoMemory.{NoMemory}
use Rattle.mt_tree.specs.Prelude.{Record, HasHeight, Form, Rooted, Busy, tried, Saw}
use Rattle.mt_base.specs.Passes as known
use Rattle.mt_tree.specs.declared.receipts.Look.{Look}
use Rattle.mt_tree.specs.declared.shapes.DupError.{DupError}
use Rattle.mt_tree.specs.declared.shapes.Shape.{Shape}
use Rattle.mt_tree.specs.declared.shapes.Stats.{Stats}
use Rattle.mt_tree.specs.declared.trees.Tree.{Tree}
use Rattle.mt_tree.specs.Behind.{Behind}
use Rattle.mt_tree.specs.Copies.{IsFit, IsFormOf, IsImageIn, IsLiveCounted, WasCounted, live_rows}
use Rattle.mt_tree.specs.Trees.{IsPassOf, LiesBehind, Pass, TriesOnce, WasPrepared, map_seen, opened, pass_in}
use Rattle.mt_tree.specs.Tries.{IsBusyOf}

-- The look was at this tree: what the lock protected when it was taken is what it protects after all that the handle has then
-- seen.
abbrev pub IsLookAt : Tree → known.Pass → Look → Type 0
IsLookAt t q look = LiesBehind t q.seen look.took.value

-- the words that the lock protected when it was taken
abbrev pub looked_words : Look → Rooted
looked_words look = look.took.value.parts.sheet.tree

-- A look that was tried. Where the lock was free, the handle has then seen the whole history, and this was found of what the lock
-- protected. Else the lock was found taken, and the handle has seen no more. It went for the lock once.
pub record WasFound {A : Type 0} (is : Tree → known.Pass → A × Look → Type 0) (t : Tree) (p : Pass) (found : Result (A × Look) Busy) (q : Pass) : Type 0 where
  pub of : IsPassOf t q
  pub saw : IfOk found (λ _. Saw (opened t) (pass_in p) (pass_in q))
  pub said : IfOk found (is t (pass_in q))
  pub busy : IfErr found (IsBusyOf t)
  pub kept : IfErr found (λ _. q ≡ tried p)
  pub tries : TriesOnce p q

-- ---- how the nodes are used

-- how many nodes there are, and how many of these are free, in use and held; how many levels, and how many calls have ended
pub record TellsRows (b : Behind) (s : Stats) : Type 0 where
  pub rows : s.rows ≡ b.parts.sheet.tree.rows
  pub free : s.free ≡ length b.parts.book.free
  pub live : s.live ≡ live_rows b.parts.sheet.tree
  pub held : s.held ≡ length b.parts.book.held
  pub height : HasHeight b.parts.sheet.tree s.height
  pub calls : s.calls ≡ length b.pen.history

-- The numbers are those of what the lock protected when it was taken for the look.
abbrev pub IsStatsOf : Tree → known.Pass → Stats × Look → Type 0
IsStatsOf t q found = IsLookAt t q found.1 × TellsRows found.1.took.value found.0

-- ---- since when sections are open

-- The section words were scanned, and the nodes freed that no section holds, between two moments after these calls. The least
-- epoch at which a section stood open then is this one.
pub record IsLeastBy (t : Tree) (calls : List Record) (b b' : Behind) (least : ℕ) : Type 0 where
  pub before : LiesBehind t calls b
  pub after : LiesBehind t calls b'
  pub prepared : WasPrepared t b b'
  pub told : least ≡ prepared.scan.least

-- Each section that was open when the look scanned the section words had been opened when at least this many of the calls that
-- the handle has seen had ended. If none was open, it is the number of all of these.
pub record IsOldest (t : Tree) (q : known.Pass) (found : ℕ × Look) : Type 0 where
  pub least : ℕ
  pub by : IsLeastBy t q.seen found.1.took.value found.1.left.value least
  pub told : found.0 ≡ min least (length q.seen)

-- ---- their words

-- The form is that of the words that the lock protected.
pub record IsFormBehind (t : Tree) (q : known.Pass) (found : Form × Look) : Type 0 where
  pub behind : IsLookAt t q found.1
  pub form : IsFormOf (opened t).kind (opened t).rows (map_seen t q) found.0
  pub of : form.words ≡ looked_words found.1

-- The bytes are the image of these words.
pub record IsImageBehind (t : Tree) (q : known.Pass) (look : Look) (bytes : List ℕ) : Type 0 where
  pub image : IsImageIn (opened t).kind (opened t).rows (map_seen t q) bytes
  pub of : image.words ≡ looked_words look

-- An image, if memory did not run out.
abbrev pub IsImagedBehind : Tree → known.Pass → Result (Vec ℕ Global) NoMemory × Look → Type 0
IsImagedBehind t q found = IsLookAt t q found.1 × IfOk found.0 (λ bytes. IsImageBehind t q found.1 bytes.items)

-- ---- copies

-- A copy of this shape was asked for. Without a look the handle has not gone for the lock, and no node was counted. For a look,
-- which only a shape of the tree's kind that is in range gets, it went once, and has seen the whole history. A copy was made only
-- if its nodes are enough for those in use in the words that the lock protected, and refused for too few only if they are not.
abbrev pub IsCopyLooked : {X : Type 0} → Tree → Pass → Pass → Shape → Result X DupError → Option Look → Type 0
IsCopyLooked t p q shape made None = (q ≡ p) × ¬ WasCounted made
IsCopyLooked t p q shape made (Some look) =
    IsFit shape (opened t).kind × TriesOnce p q × Saw (opened t) (pass_in p) (pass_in q) × IsLookAt t (pass_in q) look × IsLiveCounted (live_rows (looked_words look)) shape.rows made

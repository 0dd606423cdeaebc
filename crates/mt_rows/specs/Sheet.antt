-- All meanings of a tree's nodes in one record, and what each call does to it.
-- Source: this project's own; the kernel's writers replace nodes under a lock, and free them after a grace period.
use Rattle.std.specs.Prelude.{◌≡◌, ◌≢◌, ◌⊎◌, ℕ, ◌+◌, ◌-◌, ◌*◌, ◌^◌, ◌<◌, ◌≤◌, Bool, true, false, List, Option, Some, None, length, min, slice_index_or, slice_set, option_map}
use Rattle.mt_rows.specs.Prelude.{Kind, Holder, columns, most_rows, first_row, Limits, Record, Gapped, row_in, named_kind, dead_mark, slots_of, gap_column, Span, most_calls}
use Rattle.mt_rows.specs.Spans.{Table, column, base_of, spans_in, root_span}
use Rattle.mt_rows.specs.Levels.{IsBelow, one_if}
use Rattle.mt_rows.specs.declared.rows.Life.{Life}
use Rattle.mt_rows.specs.declared.rows.Life.TheVariants.{New, Draft, Live, Dead}
use Rattle.mt_rows.specs.declared.rows.Scan.{Scan}

-- Who calls, if that is given: the tree's table and the number of its handles. Of the joined handle: its number, the epochs at
-- which it opened sections, the epoch of the one that is open, and the greatest call seen begun.
pub record Caller : Type 0 where
  pub table : ℕ
  pub passes : ℕ
  pub pass : ℕ
  pub opened : List ℕ
  pub standing : Option ℕ
  pub begun : ℕ

-- who calls, and the records of the tree's history
pub record Told : Type 0 where
  pub caller : Caller
  pub records : List Record

-- how many nodes there are, their words, and the root word
pub record Rooted : Type 0 where
  pub rows : ℕ
  pub table : Table
  pub root : ℕ

pub record Sheet : Type 0 where
  -- the nodes with their words, and the root word
  pub tree : Rooted
  -- the number of calls ended; whether a call is in flight, and whether it has published
  pub ended : ℕ
  pub in_flight : Bool
  pub published : Bool
  -- by the node's number: its life, and whether the call in flight has buried it
  pub lives : List Life
  pub buried : List Bool
  -- how many nodes were live before the first call
  pub opened : ℕ
  -- a number that never falls: a node that is dead by a call up to it may be used again
  pub cleared : ℕ
  -- whether others may read the nodes; the last scan's answer, and how many scans there were since the last `begin`
  pub shared : Bool
  pub scan : Scan
  pub scans : ℕ
  -- if they are given: how many loads, the tree's kind, and who calls, with the history's records
  pub reads : Option ℕ
  pub kind : Option Kind
  pub told : Option Told

-- a count of 64 bits after one more, which stays at its last value
abbrev pub one_more : ℕ → ℕ
one_more n = min (n + 1) (2 ^ 64 - 1)

abbrev pub life_of : List Life → ℕ → Life
life_of lives row = slice_index_or lives row New

abbrev pub is_buried : List Bool → ℕ → Bool
is_buried buried row = slice_index_or buried row false

-- what the calls on nodes are limited by
abbrev pub limits_of : Sheet → Limits
limits_of s = record { rows = s.tree.rows; opened = s.opened; ended = s.ended; may_hold = s.shared }

-- a dead node died by a call that has ended, or by the call in flight
abbrev pub HasDied : ℕ → Bool → Life → Type 0
HasDied ended in_flight New = Unit {0}
HasDied ended in_flight Draft = Unit {0}
HasDied ended in_flight Live = Unit {0}
HasDied ended in_flight (Dead call) = (1 ≤ call) × (call ≤ ended + one_if in_flight)

-- what every table of nodes keeps: few enough nodes to be named, a word for each column, and a life for each node
pub record IsWhole (s : Sheet) : Type 0 where
  pub few : s.tree.rows ≤ most_rows
  pub words : length s.tree.table.words ≡ columns s.tree.table.width * (first_row + s.tree.rows)
  pub lives : length s.lives ≡ first_row + s.tree.rows
  pub buried : length s.buried ≡ first_row + s.tree.rows
  pub cleared : s.cleared ≤ s.ended
  pub dead : (row : ℕ) → HasDied s.ended s.in_flight (life_of s.lives row)

-- a node and a column of the table
pub record IsPlace (t : Rooted) (row col : ℕ) : Type 0 where
  pub first : first_row ≤ row
  pub last : row < first_row + t.rows
  pub column : col < columns t.table.width

abbrev pub word_at : Rooted → ℕ → ℕ → ℕ
word_at t row col = column t.table row col

abbrev pub with_word : Rooted → ℕ → ℕ → ℕ → Rooted
with_word t row col word = record {
  rows = t.rows;
  table = record { width = t.table.width; words = slice_set t.table.words (base_of t.table row + col) word };
  root = t.root;
}

-- one word was loaded
abbrev pub loaded : Sheet → Sheet
loaded s = record s { reads = option_map one_more s.reads }

-- ---- begin and scan

pub record MayBegin (s : Sheet) : Type 0 where
  pub idle : s.in_flight ≡ false
  pub room : s.ended < most_calls

abbrev pub begun : Sheet → Sheet
begun s = record s { in_flight = true; published = false; scans = 0 }

-- What a scan may return. The least epoch is that of the holder, and the greatest number if no section is open. The holder is
-- one of the table's handles, and not the caller if the caller has no section open. If nobody else may read, there is none.
pub record IsScan (shared : Bool) (told : Option Told) (answer : Scan) : Type 0 where
  pub least : ((answer.by ≡ None) × (answer.least ≡ 2 ^ 64 - 1)) ⊎ ((holder : Holder) × (answer.by ≡ Some holder) × (answer.least ≡ holder.epoch))
  pub alone : shared ≡ false → answer.by ≡ None
  pub pass : (t : Told) (holder : Holder) → told ≡ Some t → answer.by ≡ Some holder → (holder.pass < t.caller.passes) × (t.caller.standing ≡ None → holder.pass ≢ t.caller.pass)

-- after a scan with this answer; `cleared` may rise
abbrev pub scanned : Sheet → Scan → ℕ → Sheet
scanned s answer cleared = record s { scan = answer; scans = one_more s.scans; cleared = cleared }

-- ---- draft

-- a node that may be written again: new, draft, or dead (retired) by a call that is cleared
abbrev pub IsFree : ℕ → Life → Type 0
IsFree cleared New = Unit {0}
IsFree cleared Draft = Unit {0}
IsFree cleared Live = ⊥
IsFree cleared (Dead call) = call ≤ cleared

abbrev pub drafted : Sheet → ℕ → ℕ → ℕ → Sheet
drafted s row col word = record s { tree = with_word s.tree row col word; lives = slice_set s.lives row Draft }

-- ---- bury

pub record MayBury (s : Sheet) (row : ℕ) : Type 0 where
  pub in_flight : s.in_flight ≡ true
  pub before : s.published ≡ false
  pub at : IsPlace s.tree row 0
  pub live : life_of s.lives row ≡ Live

abbrev pub after_bury : Sheet → ℕ → Sheet
after_bury s row = record s { tree = with_word s.tree row 0 (dead_mark row); buried = slice_set s.buried row true }

-- ---- tend

-- the column is the gap column of an item of a node that is reached and has gaps
pub record IsGapOf (t : Rooted) (row col : ℕ) : Type 0 where
  pub depth : ℕ
  pub at : Span
  pub slot : ℕ
  pub reached : IsBelow t.table depth (root_span t.table t.root) at
  pub gapped : named_kind at.word ≡ Some Gapped
  pub number : row_in at.word ≡ row
  pub used : slot < length (spans_in t.table at)
  pub column : col ≡ gap_column (slots_of t.table.width Gapped) slot

pub record MayTend (s : Sheet) (row col word : ℕ) : Type 0 where
  pub at : IsPlace s.tree row col
  pub live : life_of s.lives row ≡ Live
  pub kept : is_buried s.buried row ≡ false
  pub column : (col ≡ 0) ⊎ IsGapOf s.tree row col
  pub alive : col ≡ 0 → word ≢ dead_mark row

abbrev pub tended : Sheet → ℕ → ℕ → ℕ → Sheet
tended s row col word = record s { tree = with_word s.tree row col word }

-- ---- calls that only load

-- nothing but the number of loads has changed
abbrev pub OnlyReads : Sheet → Sheet → Type 0
OnlyReads s s' = s' ≡ record s { reads = s'.reads }

-- the count, if it is given, rose by at most this
abbrev pub RoseUpTo : ℕ → Option ℕ → Option ℕ → Type 0
RoseUpTo n None None = Unit {0}
RoseUpTo n (Some a) (Some b) = b ≤ a + n
RoseUpTo n None (Some b) = ⊥
RoseUpTo n (Some a) None = ⊥

-- nothing has changed, except that at most `n` loads were made
pub record ReadsUpTo (n : ℕ) (s s' : Sheet) : Type 0 where
  pub rest : OnlyReads s s'
  pub reads : RoseUpTo n s.reads s'.reads

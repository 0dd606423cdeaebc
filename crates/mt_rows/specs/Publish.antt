-- What a publishing store and the end of a call are asked for, and what they leave.
-- Source: this project's own; the kernel's mas_replace_node publishes a subtree by one store of its parent's slot.
use Rattle.std.specs.Prelude.{◌≡◌, ◌≢◌, ◌⊎◌, ℕ, ◌+◌, ◌*◌, ◌<◌, ◌≤◌, ◌==◌, Bool, true, false, List, [], ◌∷◌, ◌++◌, All, AllPairs, Option, Some, None, IfSome, length, map, nat_lt, if◌then◌else◌, option_map}
use Rattle.mt_rows.specs.Prelude.{Kind, Range, Call, Reply, Shortage, kind_width, first_row, acted, finds_room, IsRefused, RowKind, Span, row_in, named_kind, dead_mark, slots_of, slot_column}
use Rattle.mt_rows.specs.declared.rows.Life.{Life}
use Rattle.mt_rows.specs.declared.rows.Life.TheVariants.{Draft, Live, Dead}
use Rattle.mt_rows.specs.declared.rows.Place.{Place}
use Rattle.mt_rows.specs.declared.rows.Place.TheVariants.{Root, Slot}
use Rattle.mt_rows.specs.Spans.{spans_in, root_span}
use Rattle.mt_rows.specs.Levels.{IsBelow, tally}
use Rattle.mt_rows.specs.Trees.{map_in, reached_in, height_in}
use Rattle.mt_rows.specs.Laws.{Tree, IsTree, IsLawful}
use Rattle.mt_rows.specs.Sheet.{Told, Rooted, Sheet, IsPlace, life_of, is_buried, word_at, with_word, limits_of}

-- ---- the tree that words are

-- the words as a tree with gaps or without, and as a tree of this kind
abbrev pub tree_on : Bool → Rooted → Tree
tree_on gapped t = record { rows = t.rows; gapped = gapped; table = t.table; root = t.root }

abbrev pub tree_as : Kind → Rooted → Tree
tree_as kind = tree_on (finds_room kind)

-- nodes of this kind: the kind that they give, if they give one
abbrev pub IsToldKind : Option Kind → Kind → Type 0
IsToldKind told kind = IfSome told (λ k. k ≡ kind)

-- the words keep all laws but those of parents and gaps
pub record IsTreeOf (t : Rooted) (kind : Kind) : Type 0 where
  pub width : t.table.width ≡ kind_width kind
  pub words : IsTree (tree_as kind t)

-- the words are well-formed
pub record IsLawfulOf (t : Rooted) (kind : Kind) : Type 0 where
  pub width : t.table.width ≡ kind_width kind
  pub words : IsLawful (tree_as kind t)

abbrev pub map_by : Rooted → List Range
map_by t = map_in t.table t.root

-- ---- nodes that are reached

abbrev pub is_reached : Rooted → ℕ → Bool
is_reached t row = nat_lt 0 (tally (λ (r : ℕ). r == row) (reached_in t.table t.root))

abbrev pub IsReached : Rooted → ℕ → Type 0
IsReached t row = is_reached t row ≡ true

-- Live nodes are those that are reached from the root.
abbrev pub LiveAreReached : Rooted → List Life → Type 0
LiveAreReached t lives = (row : ℕ) → first_row ≤ row → row < first_row + t.rows → (life_of lives row ≡ Live → IsReached t row) × (IsReached t row → life_of lives row ≡ Live)

-- the span is reached, this many levels above the leaves
pub record StandsAt (t : Rooted) (height : ℕ) (x : Span) : Type 0 where
  pub depth : ℕ
  pub below : IsBelow t.table depth (root_span t.table t.root) x
  pub levels : depth + height + 1 ≡ height_in t.table t.root

-- the spans that are 0 are at the same places
abbrev pub SameHoles : List Span → List Span → Type 0
SameHoles xs ys = map (λ (x : Span). x.word == 0) xs ≡ map (λ (y : Span). y.word == 0) ys

-- a node that is reached before and after keeps its range, its level, and which of its slots are 0
pub record KeepsPlace (t t' : Rooted) (h h' : ℕ) (x x' : Span) : Type 0 where
  pub height : h' ≡ h
  pub first : x'.first ≡ x.first
  pub last : x'.last ≡ x.last
  pub holes : SameHoles (spans_in t.table x) (spans_in t'.table x')

-- ---- publish

-- the slot column of an item of a node that is reached
pub record IsSlotOf (t : Rooted) (row col : ℕ) : Type 0 where
  pub depth : ℕ
  pub at : Span
  pub kind : RowKind
  pub slot : ℕ
  pub reached : IsBelow t.table depth (root_span t.table t.root) at
  pub named : named_kind at.word ≡ Some kind
  pub number : row_in at.word ≡ row
  pub used : slot < length (spans_in t.table at)
  pub column : col ≡ slot_column (slots_of t.table.width kind) slot

abbrev pub IsPlaceToPublish : Sheet → Place → Type 0
IsPlaceToPublish s Root = Unit {0}
IsPlaceToPublish s (Slot row col) = IsPlace s.tree row col × (life_of s.lives row ≡ Live) × IsSlotOf s.tree row col

-- the tree after the word is stored at the place
abbrev pub with_published : Rooted → Place → ℕ → Rooted
with_published t Root word = record { rows = t.rows; table = t.table; root = word }
with_published t (Slot row col) word = with_word t row col word

-- a node that is reached then was live, or is a draft without its dead mark
abbrev pub IsKnown : Rooted → List Life → ℕ → Type 0
IsKnown t lives row = (life_of lives row ≡ Live) ⊎ ((life_of lives row ≡ Draft) × (word_at t row 0 ≢ dead_mark row))

-- what a publishing store makes of nodes
pub record ChangesRows (s : Sheet) (t' : Rooted) : Type 0 where
  pub known : (row : ℕ) → IsReached t' row → IsKnown s.tree s.lives row
  pub stay : (h h' : ℕ) (x x' : Span) → StandsAt s.tree h x → StandsAt t' h' x' → row_in x.word ≡ row_in x'.word → KeepsPlace s.tree t' h h' x x'
  pub gone : (row : ℕ) → IsReached s.tree row → is_reached t' row ≡ false → is_buried s.buried row ≡ true
  pub buried : (row : ℕ) → first_row ≤ row → row < first_row + s.tree.rows → is_buried s.buried row ≡ true → IsReached s.tree row × (is_reached t' row ≡ false)

-- the whole condition of a publishing store, on a tree of this kind
pub record MayPublish (kind : Kind) (s : Sheet) (place : Place) (word : ℕ) (call : Call) (reply : Reply) : Type 0 where
  pub in_flight : s.in_flight ≡ true
  pub before : s.published ≡ false
  pub told : IsToldKind s.kind kind
  pub at : IsPlaceToPublish s place
  pub live : LiveAreReached s.tree s.lives
  pub tree : IsTreeOf s.tree kind
  pub answer : acted kind (map_by s.tree) call ≡ (map_by (with_published s.tree place word), reply)
  pub after : IsTree (tree_as kind (with_published s.tree place word))
  pub rows : ChangesRows s (with_published s.tree place word)

-- if records are given, one more: the caller's
abbrev pub with_record : Option Told → Call → Reply → Option Told
with_record told call reply = option_map (λ (t : Told). record t { records = t.records ++ (record { pass = t.caller.pass; call = call; reply = reply } ∷ []) }) told

-- The drafts that are reached are live then, and the buried nodes are dead by this call.
abbrev pub life_after : Sheet → Rooted → ℕ → Life
life_after s t' row = if is_reached t' row then Live else (if is_buried s.buried row then Dead (s.ended + 1) else life_of s.lives row)

pub record Published (s s' : Sheet) (place : Place) (word : ℕ) (call : Call) (reply : Reply) : Type 0 where
  pub rest : s' ≡ record s { tree = with_published s.tree place word; published = true; lives = s'.lives; buried = s'.buried; told = with_record s.told call reply }
  pub lives : (row : ℕ) → first_row ≤ row → row < first_row + s.tree.rows → life_of s'.lives row ≡ life_after s (with_published s.tree place word) row
  pub buried : (row : ℕ) → first_row ≤ row → row < first_row + s.tree.rows → is_buried s'.buried row ≡ false

-- ---- finish

-- no node is buried
abbrev pub NoneBuried : ℕ → List Bool → Type 0
NoneBuried rows buried = (row : ℕ) → first_row ≤ row → row < first_row + rows → is_buried buried row ≡ false

-- a node that died after the least epoch at which a scan found a section open
pub record IsHeldBack (lives : List Life) (least : ℕ) (row : ℕ) : Type 0 where
  pub call : ℕ
  pub dead : life_of lives row ≡ Dead call
  pub after : least < call

-- a scan was made in the call in flight
abbrev pub WasScanned : Sheet → Type 0
WasScanned s = 1 ≤ s.scans

-- A shortage is real. It gives the height and how many nodes are reached, and the section that the last scan found holds back
-- as many nodes as it says.
pub record IsRealShortage (s : Sheet) (short : Shortage) : Type 0 where
  pub need : short.need ≡ 3 * height_in s.tree.table s.tree.root + 1
  pub live : short.live ≡ length (reached_in s.tree.table s.tree.root)
  pub rows : List ℕ
  pub many : length rows ≡ short.held
  pub apart : AllPairs (λ r q. r ≢ q) rows
  pub held : All (IsHeldBack s.lives s.scan.least) rows
  pub by : short.by ≡ (if nat_lt 0 short.held then s.scan.by else None)

-- a call that is refused for lack of nodes, as a scan of this call found
pub record IsFoundShort (kind : Kind) (s : Sheet) (call : Call) (reply : Reply) : Type 0 where
  pub refused : IsRefused kind (limits_of s) (map_by s.tree) call reply
  pub counted : IsRealShortage s refused.shortage
  pub scanned : WasScanned s

-- a call that published nothing leaves the map, by its reply or by a refusal
pub record LeavesMap (kind : Kind) (s : Sheet) (call : Call) (reply : Reply) : Type 0 where
  pub none_buried : NoneBuried s.tree.rows s.buried
  pub told : IsToldKind s.kind kind
  pub width : s.tree.table.width ≡ kind_width kind
  pub answer : (acted kind (map_by s.tree) call ≡ (map_by s.tree, reply)) ⊎ IsFoundShort kind s call reply

pub record MayFinish (kind : Kind) (s : Sheet) (call : Call) (reply : Reply) : Type 0 where
  pub in_flight : s.in_flight ≡ true
  pub kept : s.published ≡ false → LeavesMap kind s call reply

abbrev pub finished : Sheet → Call → Reply → Sheet
finished s call reply = record s { ended = s.ended + 1; in_flight = false; published = false; told = if s.published then s.told else with_record s.told call reply }

-- ---- plant

-- nodes of which none was used by a call
pub record MayPlant (kind : Kind) (s : Sheet) (root : ℕ) : Type 0 where
  pub idle : s.in_flight ≡ false
  pub first : s.ended ≡ 0
  pub empty : s.tree.root ≡ 0
  pub told : IsToldKind s.kind kind
  pub lawful : IsLawfulOf (with_published s.tree Root root) kind

-- the nodes that are reached from the root word are live, and they alone; all others are as they were
pub record Planted (s s' : Sheet) (root : ℕ) : Type 0 where
  pub rest : s' ≡ record s { tree = with_published s.tree Root root; lives = s'.lives; opened = length (reached_in s.tree.table root) }
  pub lives : (row : ℕ) → first_row ≤ row → row < first_row + s.tree.rows → life_of s'.lives row ≡ (if is_reached s'.tree row then Live else life_of s.lives row)
  pub live : LiveAreReached s'.tree s'.lives

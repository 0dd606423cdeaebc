-- The walk of a copy: which nodes it reaches, by the names in the slots of nodes, and what it leaves there.
-- Source: this project's own.
use Rattle.std.specs.Prelude.{◌≡◌, ◌≢◌, ◌⊎◌, ℕ, zero, suc, ◌+◌, ◌-◌, ◌*◌, ◌<◌, ◌≤◌, List, [], ◌∷◌, Option, Some, None}
use Rattle.std.specs.List.{AllByRecursion, flat_map}
use Rattle.mt_dup.specs.Prelude.{columns, first_row, RowKind, Leaf, slot_column, row_in, named_kind, parent_at, slots_of, Table, column, Rooted, names_of}
use Rattle.mt_dup.specs.declared.walks.Way.{Way}
use Rattle.mt_dup.specs.declared.columns.Pair.{Pair}
use Rattle.mt_dup.specs.Copy.{with_new_row, IsRowCopy}

-- ---- the names that the walk reaches

abbrev pub names_by : (ℕ → List ℕ) → Table → ℕ → Option RowKind → List ℕ
names_by below t word None = []
names_by below t word (Some kind) = word ∷ flat_map below (names_of t (row_in word) kind)

-- a word, if it is a name, and the names in the slots of its node and below, at most this many levels deep
unfoldable pub names_from : Table → ℕ → ℕ → List ℕ
names_from t zero word = []
names_from t (suc depth) word = names_by (names_from t depth) t word (named_kind word)

-- the names from those in the slots of a node on
abbrev pub names_below : Table → ℕ → Pair → List ℕ
names_below t depth pair = flat_map (names_from t (depth - 1)) (names_of t pair.row pair.kind)

-- ---- what the walk asks for

-- each node that is named here has the parent word of its slot
abbrev pub ParentsAre : Table → ℕ → ℕ → List ℕ → Type 0
ParentsAre t row slot [] = Unit {0}
ParentsAre t row slot (word ∷ words) = (word ≢ 0 → column t (row_in word) 0 ≡ parent_at row slot) × ParentsAre t row (slot + 1) words

abbrev pub MayCopyBy : (ℕ → Type 0) → Rooted → ℕ → Option RowKind → Type 0
MayCopyBy below t word None = word ≡ 0
MayCopyBy below t word (Some kind) =
    (row_in word < first_row + t.rows) × (ParentsAre t.table (row_in word) 0 (names_of t.table (row_in word) kind) × AllByRecursion below (names_of t.table (row_in word) kind))

-- a word is 0 or names a node of the table, and so do the words in the slots of that node, at most this many levels deep
unfoldable pub MayCopy : Rooted → ℕ → ℕ → Type 0
MayCopy t zero word = word ≡ 0
MayCopy t (suc depth) word = MayCopyBy (MayCopy t depth) t word (named_kind word)

-- each word in the slots of a node is 0 or names a node of the table, this many levels deep
pub record MayCopyBelow (t : Rooted) (depth : ℕ) (pair : Pair) : Type 0 where
  pub deep : 0 < depth
  pub first : first_row ≤ pair.row
  pub inside : pair.row < first_row + t.rows
  pub parents : ParentsAre t.table pair.row 0 (names_of t.table pair.row pair.kind)
  pub below : AllByRecursion (MayCopy t (depth - 1)) (names_of t.table pair.row pair.kind)

-- ---- what the walk leaves

-- the nodes that are named have the numbers from `from` on, one by one
abbrev pub AreNumbered : (ℕ → ℕ) → ℕ → List ℕ → Type 0
AreNumbered number from [] = Unit {0}
AreNumbered number from (word ∷ words) = (number (row_in word) ≡ from) × AreNumbered number (from + 1) words

abbrev pub IsCopied : (ℕ → ℕ) → Table → Table → ℕ → Type 0
IsCopied number t t' word = (kind : RowKind) → named_kind word ≡ Some kind → IsRowCopy number t t' kind (row_in word)

abbrev pub AreCopied : (ℕ → ℕ) → Table → Table → List ℕ → Type 0
AreCopied number t t' words = AllByRecursion (IsCopied number t t') words

-- Under the numbers that nodes have from `from` on, what a word names is copied, and this is its name in the copy.
abbrev pub LeavesCopy : Table → Table → ℕ → Way → ℕ → Type 0
LeavesCopy t t' from way name =
    (number : ℕ → ℕ) → number 0 ≡ 0 → AreNumbered number from (names_from t way.depth way.word) → (way.word ≢ 0 → way.parent ≡ with_new_row number (column t (row_in way.word) 0))
    → (name ≡ with_new_row number way.word) × AreCopied number t t' (names_from t way.depth way.word)

-- the names in the slots of a node are written
abbrev pub HasNames : (ℕ → ℕ) → Table → Table → Pair → Type 0
HasNames number t t' pair = (i : ℕ) → i < slots_of t.width pair.kind
    → column t' pair.to (slot_column (slots_of t.width pair.kind) i) ≡ with_new_row number (column t pair.row (slot_column (slots_of t.width pair.kind) i))

abbrev pub LeavesChildren : Table → Table → ℕ → ℕ → Pair → Type 0
LeavesChildren t t' from depth pair =
    (number : ℕ → ℕ) → number 0 ≡ 0 → number pair.row ≡ pair.to → AreNumbered number from (names_below t depth pair) → (pair.kind ≢ Leaf → HasNames number t t' pair) × AreCopied number t t' (names_below t depth pair)

-- no column of a node of this kind holds the name of a node
abbrev pub IsNoName : RowKind → ℕ → ℕ → Type 0
IsNoName kind slots c = (kind ≡ Leaf) ⊎ ((c < slots) ⊎ (2 * slots ≤ c))

-- the columns of a node are as before, except for the names in its slots
abbrev pub KeepsOwn : Table → Table → Pair → Type 0
KeepsOwn t t' pair = (c : ℕ) → c < columns t.width → IsNoName pair.kind (slots_of t.width pair.kind) c → column t' pair.to c ≡ column t pair.to c

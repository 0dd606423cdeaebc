-- A chunk of the nodes of a level: what it is given, and what it makes.
-- Source: this project's own.
use Rattle.std.specs.Prelude.{◌≡◌, ◌≢◌, ℕ, zero, suc, ◌+◌, ◌-◌, ◌*◌, ◌<◌, ◌≤◌, ◌++◌, Any, List, [], ◌∷◌, length, map, take, drop, slice_index}
use Rattle.std.specs.List.{AllByRecursion}
use Rattle.mt_bulk.specs.Prelude.{inner_kind, Kind, finds_room, columns, first_row, kind_width, most_rows, Item, RowKind, FitRow, NoGaps, RiseFrom, slots_of, gaps_of}
use Rattle.mt_bulk.specs.declared.chunks.Chunk.{Chunk}
use Rattle.mt_bulk.specs.Bulk.{heads, levels_built, words_of}

-- the nodes of items from a place on that end at these places
abbrev pub rows_between : List Item → ℕ → List ℕ → List (List Item)
rows_between items from [] = []
rows_between items from (end ∷ ends) = take (end - from) (drop from items) ∷ rows_between items end ends

-- the first index after the items in front of a place
abbrev pub begins_at : List Item → ℕ → ℕ
begins_at items zero = 0
begins_at items (suc at) = slice_index (map (λ x. x.last) items) at + 1

-- nodes of a level: those with these ends, from this number on, with these parent words
pub record ChunkView : Type 0 where
  pub tree : Kind
  pub kind : RowKind
  pub number : ℕ
  pub items : List Item
  pub from : ℕ
  pub ends : List ℕ
  pub parents : List ℕ

abbrev pub view_of : Chunk → ChunkView
view_of c = record { tree = c.tree; kind = c.kind; number = c.number; items = c.items.now; from = c.from; ends = c.ends.now; parents = c.parents.now }

-- where node number `at` of these begins, counted from 0, and the first at 0
abbrev pub place_at : List ℕ → ℕ → ℕ
place_at ends zero = 0
place_at ends (suc at) = slice_index ends at

-- the nodes of a whole level from the one at a place up to another
abbrev pub chunk_part : ChunkView → ℕ → ℕ → ChunkView
chunk_part c from to = record c { number = c.number + from; from = place_at c.ends from; ends = take (to - from) (drop from c.ends); parents = take (to - from) (drop from c.parents) }

abbrev pub chunk_rows : ChunkView → List (List Item)
chunk_rows c = rows_between c.items c.from c.ends

abbrev pub chunk_words : ChunkView → List ℕ
chunk_words c = words_of (kind_width c.tree) c.kind c.parents (chunk_rows c)

abbrev pub heads_in : ChunkView → List Item
heads_in c = heads (finds_room c.tree) c.kind (begins_at c.items c.from) c.number (chunk_rows c)

-- each node ends after its beginning and among the items, can hold its items, and one of them is an entry or a name
abbrev pub CanFill : Kind → RowKind → List Item → ℕ → List ℕ → Type 0
CanFill tree kind items from [] = Unit {0}
CanFill tree kind items from (end ∷ ends) =
    (from < end) × (end ≤ length items)
    × FitRow (slots_of (kind_width tree) kind) (gaps_of (kind_width tree) kind) (take (end - from) (drop from items))
    × Any (λ x. x.word ≢ 0) (take (end - from) (drop from items))
    × CanFill tree kind items end ends

-- nodes that can be filled: the items rise, and there is a parent word for each node and a number that can be named
pub record AreRows (c : ChunkView) : Type 0 where
  pub rise : RiseFrom 0 c.items
  pub fill : CanFill c.tree c.kind c.items c.from c.ends
  pub parents : length c.parents ≡ length c.ends
  pub first : first_row ≤ c.number
  pub named : c.number + length c.ends ≤ first_row + most_rows

-- they can be filled, and there is room for their words and their items on the level above
pub record IsFillable (c : ChunkView) (used room heads heads_room : ℕ) : Type 0 where
  pub rows : AreRows c
  pub for_words : used + columns (kind_width c.tree) * length c.ends ≤ room
  pub for_heads : heads + length c.ends ≤ heads_room

-- their words, and their items on the level above, follow what was there
pub record HasFilled (c : ChunkView) (before after : List ℕ) (heads heads' : List Item) : Type 0 where
  pub words : after ≡ before ++ chunk_words c
  pub above : heads' ≡ heads ++ heads_in c

-- Items of inner nodes that are to be numbered from here on. They rise, each is named, and only nodes with gaps have gaps.
-- There are enough numbers for these nodes and for those above them.
pub record IsLevelToNumber (tree : Kind) (number : ℕ) (items : List Item) : Type 0 where
  pub some : 1 ≤ length items
  pub rise : RiseFrom 0 items
  pub named : AllByRecursion (λ (x : Item). x.word ≢ 0) items
  pub gaps : gaps_of (kind_width tree) (inner_kind tree) ≡ 0 → NoGaps items
  pub first : first_row ≤ number
  pub last : columns (kind_width tree) * number + length (levels_built tree (inner_kind tree) number items).words ≤ columns (kind_width tree) * (first_row + most_rows)

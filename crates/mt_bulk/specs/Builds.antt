-- What a bulk build gives, why it refuses, and what it knows of the leaves before their nodes are filled.
-- Source: this project's own.
use Rattle.std.specs.Prelude.{◌≡◌, ◌≢◌, ℕ, ◌+◌, ◌*◌, ◌<◌, ◌≤◌, List, [], ◌∷◌, ◌++◌, Option, Some, None, nat_lt, length, vec_len, vec_capacity, if◌then◌else◌, flat_map}
use Rattle.mt_bulk.specs.Prelude.{Kind, Range, finds_room, columns, first_row, kind_width, most_rows, Item, Leaf, name_at, Lane, sheet_in, IsMadeOf, new_sheet, IsLawfulOf, map_by, Sheet, inner_kind}
use Rattle.mt_bulk.specs.declared.building.Upper.{Upper}
use Rattle.mt_bulk.specs.declared.desks.LeafDesk.{LeafDesk}
use Rattle.mt_bulk.specs.declared.errors.BulkError.{BulkError}
use Rattle.mt_bulk.specs.declared.errors.BulkError.TheVariants as errors
use Rattle.mt_bulk.specs.declared.leaves.Leaves.{Leaves}
use Rattle.mt_bulk.specs.declared.levels.LevelToFill.{LevelToFill}
use Rattle.mt_bulk.specs.Bulk.{Built, bulk, inner_slots, parents_over, levels_built, rows_in}
use Rattle.mt_bulk.specs.Chunks.{AreRows, ChunkView, IsLevelToNumber, IsFillable, heads_in, chunk_part, view_of, chunk_words}
use Rattle.mt_bulk.specs.Cuts.{cut, ends_from, inner_size}
use Rattle.mt_bulk.specs.Items.{misplaced}

-- the refusal of ranges in good order, where their tree has more nodes than can be named
abbrev pub too_many : ℕ → Option BulkError
too_many rows = if nat_lt most_rows rows then Some (errors.TooMany rows) else None

abbrev pub refused_by : Option ℕ → ℕ → Option BulkError
refused_by (Some at) rows = Some (errors.Order at)
refused_by None rows = too_many rows

-- why no tree of this kind is built of these ranges, and none where one is
unfoldable pub refusal : Kind → List Range → Option BulkError
refusal kind ranges = refused_by (misplaced kind ranges) (rows_in kind ranges)

-- The nodes have exactly the words of `bulk`, and no call was begun. The words are well-formed (well-formed) and represent the
-- ranges.
pub record IsBuilt (kind : Kind) (ranges : List Range) (s : Sheet) : Type 0 where
  pub words : IsMadeOf (kind_width kind) (bulk kind ranges).root (bulk kind ranges).words s
  pub lawful : IsLawfulOf s.tree kind
  pub map : map_by s.tree ≡ ranges

-- ---- the leaves, before they are filled

-- all leaves as one chunk
abbrev pub whole_of : Leaves → ChunkView
whole_of l = record { tree = l.kind; kind = Leaf; number = first_row; items = l.items.items; from = 0; ends = l.ends.items; parents = l.parents.items }

abbrev pub built_of : Leaves → Built
built_of l = bulk l.kind l.ranges.now

-- all leaves of these items, with these ends and parent words, as one chunk, and the levels above it
abbrev pub leaf_view : Kind → List Item → List ℕ → List ℕ → ChunkView
leaf_view kind items ends parents = record { tree = kind; kind = Leaf; number = first_row; items = items; from = 0; ends = ends; parents = parents }

abbrev pub above_leaves : Kind → List Item → List ℕ → List ℕ → Built
above_leaves kind items ends parents = levels_built kind (inner_kind kind) (first_row + length ends) (heads_in (leaf_view kind items ends parents))

-- The ranges are in good order, and their tree has this many nodes, all of which can be named. The leaves can be filled. They
-- are the whole tree, or it has these levels above them.
pub record LeafFacts (kind : Kind) (ranges : List Range) (items : List Item) (ends parents : List ℕ) (rows : ℕ) : Type 0 where
  pub good : misplaced kind ranges ≡ None
  pub few : rows ≤ most_rows
  pub even : length (bulk kind ranges).words ≡ columns (kind_width kind) * rows
  pub some : 1 ≤ length ends
  pub whole : AreRows (leaf_view kind items ends parents)
  pub long : length (chunk_words (leaf_view kind items ends parents)) ≡ columns (kind_width kind) * length ends
  pub alone : length ends ≡ 1 → bulk kind ranges ≡ record { root = name_at first_row Leaf; words = chunk_words (leaf_view kind items ends parents) }
  pub level : length ends ≢ 1 → IsLevelToNumber kind (first_row + length ends) (heads_in (leaf_view kind items ends parents))
  pub several : length ends ≢ 1 → bulk kind ranges ≡ record { root = (above_leaves kind items ends parents).root; words = chunk_words (leaf_view kind items ends parents) ++ (above_leaves kind items ends parents).words }

abbrev pub HasLeafFacts : Leaves → Type 0
HasLeafFacts l = LeafFacts l.kind l.ranges.now l.items.items l.ends.items l.parents.items l.rows

-- how many words the nodes of all levels have
abbrev pub words_room : Leaves → ℕ
words_room l = columns (kind_width l.kind) * l.rows

-- ---- the lanes of the workers

-- a lane with one step, whose desk is to fill the leaves from one place up to another
pub record IsLeafLane (whole : ChunkView) (from to : ℕ) (lane : Lane LeafDesk) : Type 0 where
  pub chunk : view_of lane.desk.chunk ≡ chunk_part whole from to
  pub steps : lane.steps ≡ 1
  pub words : lane.desk.words.items ≡ []
  pub heads : lane.desk.heads.items ≡ []
  pub ready : IsFillable (view_of lane.desk.chunk) (vec_len lane.desk.words) (vec_capacity lane.desk.words) (vec_len lane.desk.heads) (vec_capacity lane.desk.heads)

-- each of the leaves from one place up to another is of one of these lanes, in order
abbrev pub AreLaid : ChunkView → ℕ → ℕ → List (Lane LeafDesk) → Type 0
AreLaid whole from to [] = from ≡ to
AreLaid whole from to (lane ∷ lanes) = (middle : ℕ) × (from ≤ middle) × IsLeafLane whole from middle lane × AreLaid whole middle to lanes

-- these lanes are numbered from here on
abbrev pub AreLanesFrom : ℕ → List (Lane LeafDesk) → Type 0
AreLanesFrom first [] = Unit {0}
AreLanesFrom first (lane ∷ lanes) = (lane.lane ≡ first) × AreLanesFrom (first + 1) lanes

-- each of the `n` workers took both of its turns
abbrev pub TookTurns : (ℕ → ℕ → Type 0) → ℕ → Type 0
TookTurns passed workers = (worker turn : ℕ) → worker < workers → turn < 2 → passed worker turn

-- what the desks (workers) of these lanes made, in their order
abbrev pub words_made : List (Lane LeafDesk) → List ℕ
words_made lanes = flat_map (λ l. l.desk.words.items) lanes

abbrev pub heads_made : List (Lane LeafDesk) → List Item
heads_made lanes = flat_map (λ l. l.desk.heads.items) lanes

-- the first of these lanes has room for all nodes: for this many words, and for this many items of the level above
abbrev pub FirstHasRoom : ℕ → ℕ → List (Lane LeafDesk) → Type 0
FirstHasRoom words heads [] = Unit {0}
FirstHasRoom words heads (lane ∷ lanes) = (words ≤ vec_capacity lane.desk.words) × (heads ≤ vec_capacity lane.desk.heads)

-- ---- the levels above the leaves, before their items are known

-- Inner nodes for `count` items; the first node has this number. Where each ends and the parent word of each, whatever the
-- items are, and room for their items on the level above.
pub record IsLevelOf (tree : Kind) (number count : ℕ) (l : LevelToFill) : Type 0 where
  pub ends : (items : List Item) → length items ≡ count → l.ends.items ≡ ends_from 0 (cut (inner_size (inner_slots (kind_width tree) (finds_room tree))) items)
  pub parents : (items : List Item) → length items ≡ length l.ends.items → l.parents.items ≡ parents_over tree (number + length l.ends.items) items
  pub heads : l.heads.items ≡ []
  pub room : vec_len l.heads + length l.ends.items ≤ vec_capacity l.heads

-- the levels above this many items, up to that of one node
abbrev pub AreLevels : Kind → ℕ → ℕ → List LevelToFill → Type 0
AreLevels tree number count [] = ⊥
AreLevels tree number count (l ∷ levels) = IsLevelOf tree number count l × (length l.ends.items ≢ 1 → AreLevels tree (number + length l.ends.items) (length l.ends.items) levels)

abbrev pub HavePushed : Kind → ℕ → ℕ → List LevelToFill → List LevelToFill → Type 0
HavePushed tree number count before after = (made : List LevelToFill) × (after ≡ before ++ made) × AreLevels tree number count made

-- what is made after the workers are done has its memory: the levels above the leaves, and a table for all nodes
pub record IsUpperOf (l : Leaves) (u : Upper) : Type 0 where
  pub levels : length l.ends.items ≢ 1 → AreLevels l.kind (first_row + length l.ends.items) (length l.ends.items) u.levels.items
  pub table : sheet_in u.table ≡ new_sheet (kind_width l.kind) l.rows

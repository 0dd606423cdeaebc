-- Which spans are gathered, how many, and how they end: what makes them fit to be cut into nodes.
-- Source: this project's own least numbers of items; the kernel's mab_calc_split, which keeps a leaf from ending with a
-- slot of no entry.
use Rattle.std.specs.Prelude.{◌≡◌, ◌≢◌, ℕ, zero, suc, ◌+◌, ◌-◌, ◌*◌, ◌≤◌, false, List, [], length}
use Rattle.std.specs.List.{AllByRecursion, flat_map}
use Rattle.mt_splice.specs.Prelude.{reserved, Width, RowKind, Leaf, Span, slots_of, leaf_range, Fills, Apart, EndsFull, Tree, top_of, kind_on, least_of}

-- The greatest number of items that the nodes of a level will hold: those of two full nodes but one of each, and three in the
-- place of these two. In leaves the three are what a store writes and what it leaves before and after. In inner nodes they are
-- the new nodes of the level below.
abbrev pub most_items : Width → RowKind → ℕ
most_items width kind = 2 * slots_of width kind + 1

-- The greatest number of items of leaves that end with a hole and have others after them: those of one full leaf but one, and
-- three in its place. Nothing is then left of a second leaf, because it ended with an entry.
abbrev pub most_before_hole : Width → ℕ
most_before_hole width = slots_of width Leaf + 2

-- the most items that can be cut into three nodes: each may be one short, so that no leaf ends with a hole
abbrev pub most_in_three : Width → RowKind → ℕ
most_in_three width kind = 3 * slots_of width kind - 3

-- spans that nodes of a height may hold: in leaves no two holes follow each other, and no entry is reserved
abbrev pub MayBeIn : ℕ → List Span → Type 0
MayBeIn zero run = Apart run × AllByRecursion (λ (x : Span). reserved x.word ≡ false) run
MayBeIn (suc h) run = Unit {0}

-- leaves that hold the spans end with an entry if others come after them, and hold an entry
pub record MayBeLeaves (t : Tree) (hi : ℕ) (run : List Span) : Type 0 where
  pub ends : hi ≤ top_of t → EndsFull run
  pub some : flat_map leaf_range run ≢ []

-- a span of the indexes from lo up to, but without, hi
abbrev pub span_to : ℕ → ℕ → Span
span_to lo hi = record { first = lo; last = hi - 1; word = 0 }

-- The spans fill lo up to, but without, hi; they are enough for a node of this height, and not too many for three.
pub record MayBeCut (t : Tree) (height lo hi : ℕ) (run : List Span) : Type 0 where
  pub fills : Fills lo hi run
  pub some : 1 ≤ length run
  pub few : length run ≤ most_in_three t.table.width (kind_on t.gapped height)
  pub least : least_of t height (span_to lo hi) ≤ length run
  pub fit : MayBeIn height run
  pub leaves : height ≡ 0 → MayBeLeaves t hi run

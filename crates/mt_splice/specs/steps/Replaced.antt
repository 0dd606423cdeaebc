-- What holds after a replacement.
-- Source: this project's own.
use Rattle.std.specs.Prelude.{◌≡◌, ℕ, ◌+◌, ◌≤◌, Bool, List, Option, Some, None, []}
use Rattle.mt_splice.specs.Prelude.{Range, Span, map_of, Tree, Stands, root_of}
use Rattle.mt_splice.specs.Fewest.{FewestBelow}
use Rattle.mt_splice.specs.steps.Seen.{Seen, passing, was_seen}
use Rattle.mt_splice.specs.steps.Starts.{times_in}

-- the tree with another root word
abbrev pub with_root : Tree → ℕ → Tree
with_root t word = record { rows = t.rows; gapped = t.gapped; table = t.table; root = word }

-- a tree of a height, or the empty tree, which has none
abbrev pub StandsAs : Tree → Option ℕ → Type 0
StandsAs t None = t.root ≡ 0
StandsAs t (Some h) = Stands t h

abbrev pub count_in : (ℕ → Span → Bool) → Tree → Option ℕ → ℕ
count_in p t None = 0
count_in p t (Some h) = times_in p t h

abbrev pub map_as : Tree → Option ℕ → List Range
map_as t None = []
map_as t (Some h) = map_of t.table h (root_of t)

-- in a tree, or in the empty tree, the new nodes of each level are the fewest
abbrev pub FewestAs : (ℕ → Bool) → Tree → Option ℕ → Type 0
FewestAs is_new t None = Unit {0}
FewestAs is_new t (Some h) = FewestBelow is_new t.gapped t.table h (root_of t)

-- The tree t' represents the map in place of t. Either may be the empty tree.
pub record IsReplaced (t t' : Tree) (map : List Range) (taken gone : List Seen) (old new : Option ℕ) : Type 0 where
  pub stands : StandsAs t' new
  pub ranges : map_as t' new ≡ map
  pub rows : (p : ℕ → Span → Bool) → count_in p t old + passing p taken ≡ count_in p t' new + passing p gone
  pub were : (p : ℕ → Span → Bool) → passing p gone ≤ count_in p t old
  pub fewest : FewestAs (was_seen taken) t' new

-- How a walk finds many ranges: from leaf to leaf, and in few steps from a place that the leaf at hand covers.
-- Source: the kernel's documentation of the maple tree, mas_find, which goes on from the node that it is at.
use Rattle.std.specs.Prelude.{◌≡◌, ◌⊎◌, ℕ, ◌+◌, ◌<◌, ◌≤◌, List, [], ◌∷◌, Option, Some, None, length, ⊤}
use mathlib.Core.Option.{some}
use lib.ListN.{get_elem?}
use Rattle.mt_read.specs.Prelude.{Range, Held, PassPart, place_behind}
use Rattle.mt_read.specs.declared.cursor.KeptLeaf.{KeptLeaf}
use Rattle.mt_read.specs.Cursors.{IsOver, IsOverPlace, kept_lo, row_of}

-- ---- the leaves that a section has reached

-- The node that is held is this leaf.
pub record IsHoldOf (kept : KeptLeaf) (x : Held) : Type 0 where
  pub row : kept.leaf.at.number ≡ x.row
  pub min : kept.leaf.min ≡ x.extent.first
  pub max : kept.leaf.max ≡ x.extent.last
  pub level : x.extent.level ≡ 0

-- The section has reached this leaf, and holds it.
pub record HasReached (q : PassPart) (kept : KeptLeaf) : Type 0 where
  pub held : Held
  pub place : ℕ
  pub stands : get_elem? q.held place ≡ some held
  pub is : IsHoldOf kept held

-- It holds each leaf that it held.
pub record KeepsReached (q q' : PassPart) : Type 0 where
  pub stay : (kept : KeptLeaf) → HasReached q kept → HasReached q' kept

-- ---- a look

-- A walk has looked from an index on, in this many steps at the most. From the leaf that it keeps, where that covers the index,
-- it takes few and stays in that leaf, or it has loaded the leaf's dead mark: more than `lo` calls have begun, and the handle
-- knows of `begun`. From elsewhere it walks down from the root, and loads no dead mark.
pub record LooksFrom (begun : ℕ) (leaf leaf' : Option KeptLeaf) (index : ℕ) (marks marks' : List ℕ) (few : ℕ) : Type 0 where
  pub near : IsOver leaf index → ((few ≤ 35) × (leaf' ≡ leaf) × (marks' ≡ marks)) ⊎ ((marks' ≡ row_of leaf ∷ marks) × (kept_lo leaf < begun))
  pub far : (IsOver leaf index → ⊥) → (few ≤ 163) × (marks' ≡ marks)
  pub most : few ≤ 198

-- One that has ended looks for nothing.
abbrev pub LooksOn : ℕ → Option KeptLeaf → Option KeptLeaf → Option ℕ → List ℕ → List ℕ → ℕ → Type 0
LooksOn begun leaf leaf' None marks marks' few = (few ≡ 0) × (leaf' ≡ leaf) × (marks' ≡ marks)
LooksOn begun leaf leaf' (Some index) marks marks' few = LooksFrom begun leaf leaf' index marks marks' few

-- ---- many looks

-- Where a walk stands: the leaf that it keeps, its place, and the nodes whose dead marks its handle has loaded.
pub record WalkStand : Type 0 where
  pub leaf : Option KeptLeaf
  pub at : Option ℕ
  pub marks : List ℕ

abbrev pub stand : Option KeptLeaf → Option ℕ → List ℕ → WalkStand
stand leaf at marks = record { leaf = leaf; at = at; marks = marks }

-- The looks by which a walk found these ranges, in this many steps together at the most, from where it stood to where it stands.
-- Each is from the place behind the range before, and from the leaf of that range, which the section holds. That leaf is the one
-- that was kept before, or was walked to when `lo` calls had ended.
abbrev pub GoesByLeaves : PassPart → ℕ → ℕ → ℕ → WalkStand → List Range → ℕ → WalkStand → Type 0
GoesByLeaves q lo begun max s [] few s' = (few ≡ 0) × (s' ≡ s)
GoesByLeaves q lo begun max s (r ∷ found) few s' =
    (next : KeptLeaf) × (marks : List ℕ) × (one : ℕ) × (rest : ℕ) × HasReached q next × IsOver (Some next) r.last × ((Some next ≡ s.leaf) ⊎ (next.lo ≡ lo)) × LooksOn begun s.leaf (Some next) s.at s.marks marks one × GoesByLeaves q lo begun max (stand (Some next) (place_behind (Some r) max) marks) found rest s' × (few ≡ one + rest)

-- A walk found these ranges so, with room for `room`. If they do not fill it, the walk has looked once more.
pub record WentByLeaves (q : PassPart) (lo begun max : ℕ) (s : WalkStand) (room : ℕ) (found : List Range) (few : ℕ) (s' : WalkStand) : Type 0 where
  pub until : WalkStand
  pub first : ℕ
  pub looks : GoesByLeaves q lo begun max s found first until
  pub full : length found ≡ room → (few ≡ first) × (s' ≡ until)
  pub ended : length found < room → (last : ℕ) × LooksOn begun until.leaf s'.leaf until.at until.marks s'.marks last × (few ≡ first + last)

-- ---- worked cases

-- the leaf covers each of the places from which these ranges were found
abbrev pub CoversEach : KeptLeaf → ℕ → Option ℕ → List Range → Type 0
CoversEach kept max at [] = ⊤
CoversEach kept max at (r ∷ found) = IsOverPlace (Some kept) at × CoversEach kept max (place_behind (Some r) max) found

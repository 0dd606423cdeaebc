-- What a map was after a call, with the indexes where its leaves began, and what a leaf has of it.
-- Source: this project's own; the kernel's readers may read a leaf of the map as it was before the last call.
use Rattle.std.specs.Prelude.{◌≡◌, ◌⊎◌, ℕ, ◌-◌, ◌<◌, ◌≤◌, List, [], ◌∷◌, ◌++◌, map}
use Rattle.std.specs.List.{AllByRecursion}
use Rattle.mt_base.specs.declared.ranges.Range.{Range}
use Rattle.mt_life.specs.Prelude.{Span, level, map_by, Rooted, root_span, height_in}
use Rattle.mt_life.specs.declared.views.Moment.{Moment}

abbrev pub first_index : Span → ℕ
first_index x = x.first

-- where the leaves of a tree begin
abbrev pub cuts_by : Rooted → List ℕ
cuts_by t = map first_index (level t.table (height_in t.table t.root - 1) (root_span t.table t.root ∷ []))

abbrev pub moment_of : Rooted → Moment
moment_of t = record { ranges = map_by t; cuts = cuts_by t }

-- The ranges are all that a map has from lo to hi, and none of its ranges reaches over these ends.
pub record IsPart (all : List Range) (lo hi : ℕ) (part : List Range) : Type 0 where
  pub front : List Range
  pub back : List Range
  pub joined : all ≡ front ++ (part ++ back)
  pub within : AllByRecursion (λ (r : Range). (lo ≤ r.first) × (r.last ≤ hi)) part
  pub below : AllByRecursion (λ (r : Range). r.last < lo) front
  pub above : AllByRecursion (λ (r : Range). hi < r.first) back

-- A leaf began at lo, and none after lo up to hi.
pub record Cut (cuts : List ℕ) (lo hi : ℕ) : Type 0 where
  pub before : List ℕ
  pub after : List ℕ
  pub begins : cuts ≡ before ++ (lo ∷ after)
  pub apart : AllByRecursion (λ (c : ℕ). (c ≤ lo) ⊎ (hi < c)) cuts

-- The ranges are what the map had from lo to hi, where it had a leaf.
pub record PartOf (m : Moment) (lo hi : ℕ) (part : List Range) : Type 0 where
  pub ranges : IsPart m.ranges lo hi part
  pub cuts : Cut m.cuts lo hi

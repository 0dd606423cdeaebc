-- How all lanes go through a tree's maps, and what the check of the tree's calls and reads returns.
-- Source: this project's own.
use Rattle.std.specs.Prelude.{◌≡◌, ◌⊎◌, ℕ, ◌+◌, ◌/◌, ◌<◌, ◌≤◌, Bool, true, false, List, [], Some, length, map, slice_get}
use Rattle.mt_verify.specs.Prelude.{Kind, Range, Contents}
use Rattle.mt_verify.specs.declared.looks.ToldRead.{ToldRead}
use Rattle.mt_verify.specs.declared.noted.Noted.{Noted}
use Rattle.mt_verify.specs.declared.stops.Stop.{Stop}
use Rattle.mt_verify.specs.Histories.{IsHeardAt, map_of_noted}
use Rattle.mt_verify.specs.Shortages.{shared_limits}
use Rattle.mt_verify.specs.Looks.{ArePickedBelow, IsStuck, MayHave, AreLeastOf}
use Rattle.mt_verify.specs.Stops.{Passing, AreCounted, AreStopped, DoNotFall, SomeMiscounted}

-- the looks of a lane on a tree, and the numbers that the first of them have
pub record Lane : Type 0 where
  pub looks : List ToldRead
  pub points : List ℕ

-- ---- the calls of a tree

-- a call, with this many calls before it, was answered by the map before it, or refused because nodes are short
abbrev pub IsAnsweredAt : Kind → ℕ → ℕ → ℕ → ℕ → List Range → Noted → Type 0
IsAnsweredAt kind version rows opened ended m n = IsHeardAt kind version (shared_limits rows opened ended) m n.call n.heard

-- the greatest number of nodes of a tree that opens with this map
abbrev pub opened_of : List Range → ℕ
opened_of opening = length opening / 2 + 2

-- each of the first calls, this many of them, was answered so
abbrev pub AreAnswered : Kind → ℕ → ℕ → List Range → List Noted → ℕ → Type 0
AreAnswered kind version rows opening noted count = (i : ℕ) (n : Noted) → i < count → slice_get noted i ≡ Some n
    → IsAnsweredAt kind version rows (opened_of opening) i (map_of_noted kind opening noted i) n

-- ---- all lanes at a number

-- each lane has gone through the numbers below this one
abbrev pub AreOn : (ℕ → List Range) → ℕ → List Lane → Type 0
AreOn m number lanes = (j : ℕ) (t : Lane) → slice_get lanes j ≡ Some t → ArePickedBelow m number number t.looks t.points

-- some lane is stuck
pub record SomeStuck (m : ℕ → List Range) (lanes : List Lane) : Type 0 where
  pub place : ℕ
  pub lane : Lane
  pub is : slice_get lanes place ≡ Some lane
  pub stuck : IsStuck m lane.looks lane.points

abbrev pub HavePassed : (ℕ → List Range) → ℕ → List Lane → Bool → Type 0
HavePassed m number lanes true = AreOn m (number + 1) lanes
HavePassed m number lanes false = SomeStuck m lanes

-- the looks of lanes
abbrev pub looks_of : List Lane → List (List ToldRead)
looks_of lanes = map (λ t. t.looks) lanes

-- ---- a whole tree

-- each lane's looks have the least numbers that they may have
abbrev pub AllLeast : (ℕ → List Range) → List Lane → Type 0
AllLeast m lanes = (j : ℕ) (t : Lane) → slice_get lanes j ≡ Some t → AreLeastOf m t.looks t.points

-- the looks of some lane can have no numbers
pub record SomeHasNone (m : ℕ → List Range) (lanes : List Lane) : Type 0 where
  pub place : ℕ
  pub lane : Lane
  pub is : slice_get lanes place ≡ Some lane
  pub none : (k : ℕ → ℕ) → MayHave m lane.looks k → ⊥

-- all stops (checks and copies) report how many ranges the tree had
abbrev pub AllStopped : (ℕ → List Range) → List Stop → Type 0
AllStopped m stops = AreCounted m stops (length stops)

-- Either all three hold: the maps before the calls answered them, all looks (reads) have their least numbers, and all stops
-- report how many ranges the tree had. Or one fails: a call was not answered so, some looks can have no numbers, or a stop
-- reports another number.
abbrev pub IsGone : Kind → ℕ → ℕ → List Range → List Noted → List Lane → Passing → Bool → Type 0
IsGone kind version rows opening noted lanes p true =
    AreAnswered kind version rows opening noted (length noted) × AllLeast (map_of_noted kind opening noted) lanes
    × AllStopped (map_of_noted kind opening noted) p.stops
IsGone kind version rows opening noted lanes p false =
    (AreAnswered kind version rows opening noted (length noted) → ⊥)
    ⊎ (SomeHasNone (map_of_noted kind opening noted) lanes ⊎ SomeMiscounted (map_of_noted kind opening noted) p.stops)

-- no stop has been passed
pub record AreFreshStops (p : Passing) : Type 0 where
  pub next : p.next ≡ 0
  pub rise : DoNotFall p.stops

-- no stop is after the last call
abbrev pub AreStopsWithin : ℕ → List Stop → Type 0
AreStopsWithin count stops = (i : ℕ) (s : Stop) → slice_get stops i ≡ Some s → s.at ≤ count

-- no window ends after the last call
abbrev pub AreWithin : ℕ → List Lane → Type 0
AreWithin count lanes = (j : ℕ) (t : Lane) (i : ℕ) (l : ToldRead) → slice_get lanes j ≡ Some t
    → slice_get t.looks i ≡ Some l → l.hi ≤ count

-- whether all lanes' looks have their numbers
pub record SomeWaits (lanes : List Lane) : Type 0 where
  pub place : ℕ
  pub lane : Lane
  pub is : slice_get lanes place ≡ Some lane
  pub waits : length lane.points ≡ length lane.looks → ⊥

abbrev pub AreLanesDone : List Lane → Bool → Type 0
AreLanesDone lanes true = (j : ℕ) (t : Lane) → slice_get lanes j ≡ Some t → length t.points ≡ length t.looks
AreLanesDone lanes false = SomeWaits lanes

-- no look has a number yet, and each first look may have any
abbrev pub AreFresh : List Lane → Type 0
AreFresh lanes = (j : ℕ) (t : Lane) → slice_get lanes j ≡ Some t → t.points ≡ []

-- ---- lanes and stops

-- the lanes and the stops have gone through the numbers below this one
abbrev pub AreAt : (ℕ → List Range) → ℕ → List Lane → Passing → Type 0
AreAt m number lanes p = AreOn m number lanes × AreStopped m number p

abbrev pub HavePassedAll : (ℕ → List Range) → ℕ → List Lane → Passing → Bool → Type 0
HavePassedAll m number lanes p true = AreAt m (number + 1) lanes p
HavePassedAll m number lanes p false = SomeStuck m lanes ⊎ SomeMiscounted m p.stops

-- the map after all these calls
pub record IsLastMap (kind : Kind) (opening : List Range) (noted : List Noted) (map : Contents) : Type 0 where
  pub of_kind : map.kind ≡ kind
  pub ranges : map.ranges ≡ map_of_noted kind opening noted (length noted)

-- The reads of one lane on one tree, and how a lane goes through the tree's maps from number to number.
-- Source: this project's own.
use Rattle.std.specs.Prelude.{◌≡◌, ◌⊎◌, ℕ, zero, suc, ◌+◌, ◌<◌, ◌≤◌, Bool, true, false, List, Some, length, option_map, slice_get, slice_index, unwrap_or}
use Rattle.mt_verify.specs.Prelude.{Range, answer, shown}
use Rattle.mt_verify.specs.Choices.{AreChosen}
use Rattle.mt_verify.specs.declared.looks.ToldRead.{ToldRead}
use Rattle.mt_verify.specs.declared.tracks.Fate.{Fate}
use Rattle.mt_verify.specs.declared.tracks.Fate.TheVariants.{Took, Waits, Stuck}

-- the look's answer is that of this map
abbrev pub IsTrueOn : List Range → ToldRead → Type 0
IsTrueOn m l = shown l.query (answer m l.query) ≡ l.told

-- the number of the read before this one
abbrev pub floor_at : List ℕ → ℕ → ℕ
floor_at points zero = 0
floor_at points (suc i) = slice_index points i

-- The first number that suits a look, from that of the look before it. It lies in the window, which begins at most one below
-- that number. The look is true of the map there, and of none before.
pub record IsFirstPoint (m : ℕ → List Range) (floor : ℕ) (l : ToldRead) (k : ℕ) : Type 0 where
  pub room : floor ≤ l.lo + 1
  pub rise : floor ≤ k
  pub from : l.lo ≤ k
  pub to : k ≤ l.hi
  pub holds : IsTrueOn (m k) l
  pub first : (j : ℕ) → floor ≤ j → l.lo ≤ j → j < k → IsTrueOn (m j) l → ⊥

-- the first of a lane's looks have these numbers, each the first that does
pub record ArePicked (m : ℕ → List Range) (looks : List ToldRead) (points : List ℕ) : Type 0 where
  pub few : length points ≤ length looks
  pub each : (i : ℕ) (l : ToldRead) → i < length points → slice_get looks i ≡ Some l
      → IsFirstPoint m (floor_at points i) l (slice_index points i)

-- And all their numbers are below `top`. The next look, if there is one, still has room, and is true of no map below this
-- number.
pub record ArePickedBelow (m : ℕ → List Range) (top number : ℕ) (looks : List ToldRead) (points : List ℕ) : Type 0 where
  pub picked : ArePicked m looks points
  pub below : (i : ℕ) → i < length points → slice_index points i < top
  pub room : (l : ToldRead) → slice_get looks (length points) ≡ Some l → floor_at points (length points) ≤ l.lo + 1
  pub waits : (l : ToldRead) (j : ℕ) → slice_get looks (length points) ≡ Some l → floor_at points (length points) ≤ j
      → l.lo ≤ j → j < number → IsTrueOn (m j) l → ⊥

-- the look that comes next can have no number: that of the one before is too high for it, or none in its window does
pub record IsStuck (m : ℕ → List Range) (looks : List ToldRead) (points : List ℕ) : Type 0 where
  pub picked : ArePicked m looks points
  pub look : ToldRead
  pub next : slice_get looks (length points) ≡ Some look
  pub why : (look.lo + 1 < floor_at points (length points))
      ⊎ ((j : ℕ) → floor_at points (length points) ≤ j → look.lo ≤ j → j ≤ look.hi → IsTrueOn (m j) look → ⊥)

-- the look that comes next can have this number
pub record CanTake (m : ℕ → List Range) (number : ℕ) (looks : List ToldRead) (points : List ℕ) : Type 0 where
  pub on : ArePickedBelow m (number + 1) number looks points
  pub look : ToldRead
  pub next : slice_get looks (length points) ≡ Some look
  pub from : look.lo ≤ number
  pub to : number ≤ look.hi
  pub holds : IsTrueOn (m number) look

-- the result of one try at a number
abbrev pub ComesTo : (ℕ → List Range) → ℕ → List ToldRead → List ℕ → Fate → Type 0
ComesTo m number looks points Took = ArePickedBelow m (number + 1) number looks points
ComesTo m number looks points Waits = ArePickedBelow m (number + 1) (number + 1) looks points
ComesTo m number looks points Stuck = IsStuck m looks points

abbrev pub is_took : Fate → Bool
is_took Took = true
is_took Waits = false
is_took Stuck = false

-- the result for a lane at a number: it has gone through it, or it is stuck
abbrev pub Passed : (ℕ → List Range) → ℕ → List ToldRead → List ℕ → Bool → Type 0
Passed m number looks points true = ArePickedBelow m (number + 1) (number + 1) looks points
Passed m number looks points false = IsStuck m looks points

-- ---- the looks of a lane as reads, by their places

abbrev pub lo_in : List ToldRead → ℕ → ℕ
lo_in looks i = unwrap_or (option_map (λ l. l.lo) (slice_get looks i)) 0

abbrev pub hi_in : List ToldRead → ℕ → ℕ
hi_in looks i = unwrap_or (option_map (λ l. l.hi) (slice_get looks i)) 0

abbrev pub IsTrueIn : (ℕ → List Range) → List ToldRead → ℕ → ℕ → Type 0
IsTrueIn m looks i k = (l : ToldRead) → slice_get looks i ≡ Some l → IsTrueOn (m k) l

-- a look knows of each look before it
abbrev pub KnowsAll : ℕ → ℕ → Type 0
KnowsAll i j = Unit {0}

-- the numbers may be those of this lane's looks
abbrev pub MayHave : (ℕ → List Range) → List ToldRead → (ℕ → ℕ) → Type 0
MayHave m looks k = AreChosen (length looks) (lo_in looks) (hi_in looks) (IsTrueIn m looks) KnowsAll k

-- all looks have their numbers, each the first that does, and these are the least that they may have
pub record AreLeastOf (m : ℕ → List Range) (looks : List ToldRead) (points : List ℕ) : Type 0 where
  pub picked : ArePicked m looks points
  pub count : length points ≡ length looks
  pub may : MayHave m looks (slice_index points)
  pub least : (k : ℕ → ℕ) (i : ℕ) → MayHave m looks k → i < length looks → slice_index points i ≤ k i

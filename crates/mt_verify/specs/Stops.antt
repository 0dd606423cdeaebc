-- The places where a text reports how many ranges a tree had, while its history is gone through.
-- Source: this project's own.
use Rattle.std.specs.Prelude.{◌≡◌, ℕ, ◌+◌, ◌==◌, ◌<◌, ◌≤◌, Bool, true, false, List, Option, Some, None, length, slice_get, decimal}
use Rattle.mt_verify.specs.Prelude.{Range}
use Rattle.mt_verify.specs.declared.stops.Stop.{Stop}

-- the stops of a tree, and how many of them were passed
pub record Passing : Type 0 where
  pub stops : List Stop
  pub next : ℕ

-- ---- one stop

-- this map has the number of ranges that the text reports
abbrev pub HasToldCount : List Range → Stop → Type 0
HasToldCount m s = decimal (length m) ≡ s.count.now

abbrev pub is_at : ℕ → Option Stop → Bool
is_at number None = false
is_at number (Some s) = s.at == number

-- the result of a stop at a map
abbrev pub HasStopped : List Range → Stop → Passing → Passing → Bool → Type 0
HasStopped m s before after true = HasToldCount m s × (after ≡ record { stops = before.stops; next = before.next + 1 })
HasStopped m s before after false = HasToldCount m s → ⊥

-- ---- all stops

-- the numbers of calls at which they are do not fall
abbrev pub DoNotFall : List Stop → Type 0
DoNotFall stops = (i j : ℕ) (s t : Stop) → i < j → slice_get stops i ≡ Some s → slice_get stops j ≡ Some t → s.at ≤ t.at

-- each of these stops reports how many ranges the map has there
abbrev pub AreCounted : (ℕ → List Range) → List Stop → ℕ → Type 0
AreCounted m stops count = (i : ℕ) (s : Stop) → i < count → slice_get stops i ≡ Some s → HasToldCount (m s.at) s

-- the stops that were passed report the right number; the others are at this number or above
pub record AreStopped (m : ℕ → List Range) (number : ℕ) (p : Passing) : Type 0 where
  pub few : p.next ≤ length p.stops
  pub rise : DoNotFall p.stops
  pub counted : AreCounted m p.stops p.next
  pub rest : (i : ℕ) (s : Stop) → p.next ≤ i → slice_get p.stops i ≡ Some s → number ≤ s.at

-- some stop reports another number of ranges
pub record SomeMiscounted (m : ℕ → List Range) (stops : List Stop) : Type 0 where
  pub place : ℕ
  pub stop : Stop
  pub is : slice_get stops place ≡ Some stop
  pub wrong : HasToldCount (m stop.at) stop → ⊥

abbrev pub HavePassedStops : (ℕ → List Range) → ℕ → Passing → Bool → Type 0
HavePassedStops m number p true = AreStopped m (number + 1) p
HavePassedStops m number p false = SomeMiscounted m p.stops

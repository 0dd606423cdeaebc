-- The rule of the turn (the writer lock): at most one seat holds the value, which is of the table that the turn serves.
-- Source: the kernel's ma_lock, which a writer of a tree holds.
use Rattle.std.specs.Prelude.{◌≡◌, ◌≢◌, ℕ, ◌+◌, [], ◌∷◌, Bool, true, false, List, map, Option, Some}
use mathlib.Core.Option.{some, none}
use mathlib.Core.Option as maybe
use lib.ListN.{get_elem?}
use Rattle.atomic_table.specs.Table.{State, Me, Step}
use Rattle.atomic_table.specs.Seated.{TableId}
use Rattle.atomic_table.specs.declared.shared.Seat.{Seat}
use Rattle.std.specs.declared.snapshot.Snapshot.{Snapshot}
use Rattle.mt_rule.specs.declared.table.MtTable.{MtTable}
use Rattle.mt_rule.specs.declared.passes.Pass.{Pass}
use Rattle.mt_rule.specs.declared.busy.Busy.{Busy}
use Rattle.mt_rule.specs.declared.views.TurnView.{TurnView}
use Rattle.mt_rule.specs.Tokens.{Identity, identity_of, turn_seat}

-- the table that a turn serves
abbrev pub served : Snapshot MtTable → Identity
served key = identity_of key.value

abbrev pub waiting : Snapshot MtTable → TurnView
waiting key = record { holds = false; held = false; met = false; tries = 0; of = key }

-- a handle's seat, if the handle has gone for the value this often
abbrev pub seated : Snapshot MtTable → ℕ → TurnView
seated key tries = record (waiting key) { tries = tries }

abbrev pub holding_view : Snapshot MtTable → TurnView
holding_view key = record { holds = true; held = true; met = false; tries = 0; of = key }

-- it has given the value back
abbrev pub given_back : Snapshot MtTable → TurnView
given_back key = record { holds = false; held = true; met = false; tries = 0; of = key }

-- it has found the value away
abbrev pub refused : Snapshot MtTable → TurnView
refused key = record { holds = false; held = false; met = true; tries = 0; of = key }

-- a seat beside another, and one that counts another by which its handle goes for the value
abbrev pub seat_beside : TurnView → TurnView
seat_beside v = record v { tries = 0 }

abbrev pub counting : TurnView → TurnView
counting v = record v { tries = v.tries + 1 }

-- The handle has gone for the value once more, by a try or by waiting. Nothing else of it has changed.
abbrev pub tried : Pass → Pass
tried p = record p { turn = record (turn_seat p) { views = map counting (turn_seat p).views } }

abbrev pub tries_in : List TurnView → ℕ
tries_in [] = 0
tries_in (v ∷ views) = v.tries

-- how often the handle has gone for the value
abbrev pub tries_of : Pass → ℕ
tries_of p = tries_in (turn_seat p).views

-- The handle has a seat at this turn, and may wait for its value.
pub record IsSeatedAt (turn : TableId) (key : Snapshot MtTable) (p : Pass) : Type 0 where
  pub table : (turn_seat p).table_id ≡ turn
  pub views : (turn_seat p).views ≡ seated key (tries_of p) ∷ []

-- The seat holds the value of this turn.
pub record IsTakenOf {S : Type 0} (turn : TableId) (key : Snapshot MtTable) (seat : Seat S TurnView) : Type 0 where
  pub table : seat.table_id ≡ turn
  pub view : seat.me.0 ≡ holding_view key

-- It is of a seat that has found the value of this turn away.
pub record IsBusyAt (turn : TableId) (key : Snapshot MtTable) (busy : Busy) : Type 0 where
  pub table : busy.seat.table_id ≡ turn
  pub views : busy.seat.views ≡ refused key ∷ []

-- the word is 0 while the value is in the slot
abbrev pub taken_bit : {X : Type 0} → maybe.Option X → ℕ
taken_bit none = 1
taken_bit (some x) = 0

-- this seat has held the value
abbrev pub HasHeld : List TurnView → ℕ → Type 0
HasHeld views j = (v : TurnView) × (get_elem? views j ≡ some v) × (v.held ≡ true)

module _ {C : Type 0} (table : C → Identity) where
  -- a value that is there and is of this table
  abbrev pub BelongsTo : Identity → Option C → Type 0
  BelongsTo t slot = (value : C) × (slot ≡ Some value) × (table value ≡ t)

  -- A seat knows the table that is served. The one that holds the value is the holder, and then the slot is away. A seat has
  -- found the value away only if it was ever taken.
  pub record SeatFits (key : Snapshot MtTable) (holder : ℕ) (home : maybe.Option (Option C)) (ever : Bool) (by : ℕ) (v : TurnView) : Type 0 where
    pub of : v.of ≡ key
    pub holds : v.holds ≡ true → (by ≡ holder) × (home ≡ none)
    pub met : v.met ≡ true → ever ≡ true

  -- While the slot is away, one seat says that it holds the value: it goes on saying so until the slot is home and the word 0.
  -- If the value was ever taken, the seat that took it last says that it has held it.
  pub record IsTurnKept (key : Snapshot MtTable) (s : State (Option C) TurnView) : Type 0 where
    pub holder : ℕ
    pub home : maybe.Option (Option C)
    pub ever : Bool
    pub words : s.words ≡ taken_bit home ∷ []
    pub homes : s.homes ≡ home ∷ []
    pub value : (slot : Option C) → home ≡ some slot → BelongsTo (served key) slot
    pub away : home ≡ none → get_elem? s.views holder ≡ some (holding_view key)
    pub taken : ever ≡ true → HasHeld s.views holder
    pub each : (by : ℕ) (v : TurnView) → get_elem? s.views by ≡ some v → SeatFits key holder home ever by v

  -- A swap of 1 into the word. If it was 0, the seat then holds the value; otherwise it has found it away.
  pub record Grabbed (me : Me (Option C) TurnView) (found : ℕ) (me' : Me (Option C) TurnView) : Type 0 where
    pub free : found ≡ 0 → (value : C) × (me' ≡ (holding_view me.0.of, (0, Some value) ∷ me.1)) × (table value ≡ served me.0.of)
    pub taken : found ≢ 0 → me' ≡ (refused me.0.of, me.1)

  -- the value has just been grabbed, and its slot is away with this seat
  abbrev pub HasGrabbed : Snapshot MtTable → Me (Option C) TurnView → Type 0
  HasGrabbed key me = (value : C) × (me ≡ (holding_view key, (0, Some value) ∷ [])) × (table value ≡ served key)

  abbrev pub grabs : Step (Option C) → Me (Option C) TurnView → ℕ → Me (Option C) TurnView → Type 0
  grabs step me found me' = Grabbed me found me'

-- the store of 0: the seat has given the value back, and no slot is away with it
abbrev pub releases : {C : Type 0} → Step (Option C) → Me (Option C) TurnView → ℕ → Me (Option C) TurnView → Type 0
releases step me stored me' = me' ≡ (given_back me.0.of, [])

-- The rule of a keep (a try-lock with a value): at most one seat has the value, which is of the keep's place. Each visit of its
-- history took what the one before had given back.
-- Source: this project's own; the kernel's spin_trylock.
use Rattle.std.specs.Prelude.{◌≡◌, ◌≢◌, ◌+◌, ℕ, [], ◌∷◌, Bool, true, false, List, Option, Some, None}
use mathlib.Core.Option.{some, none}
use mathlib.Core.Option as maybe
use lib.ListN.{get_elem?}
use Rattle.atomic_table.specs.Table.{State, Me, Step}
use Rattle.atomic_table.specs.Seated.{TableId}
use Rattle.atomic_table.specs.declared.badge.Badge.{Badge}
use Rattle.atomic_table.specs.declared.shared.Seat.{Seat}
use Rattle.std.specs.declared.snapshot.Snapshot.{Snapshot}
use Rattle.mt_keep.specs.declared.keep.Busy.{Busy}
use Rattle.mt_keep.specs.declared.keep.Given.{Given}
use Rattle.mt_keep.specs.declared.keep.Sight.{Sight}
use Rattle.mt_keep.specs.declared.keep.Start.{Start}

module _ {C K : Type 0} where
  -- of a keep that began so, and this many cuts from its first chair
  abbrev pub waiting : Start C K → ℕ → Sight C K
  waiting key cuts = record { holds = false; held = false; refused = false; took = None; gave = None; of = key; cuts = cuts }

  -- it has taken this value
  abbrev pub holding : Start C K → ℕ → Snapshot C → Sight C K
  holding key cuts took = record { holds = true; held = true; refused = false; took = Some took; gave = None; of = key; cuts = cuts }

  -- it has taken one value and given another back
  abbrev pub given_back : Start C K → ℕ → Snapshot C → Snapshot C → Sight C K
  given_back key cuts took gave = record { holds = false; held = true; refused = false; took = Some took; gave = Some gave; of = key; cuts = cuts }

  -- it has found the value away
  abbrev pub refused : Start C K → ℕ → Sight C K
  refused key cuts = record { holds = false; held = false; refused = true; took = None; gave = None; of = key; cuts = cuts }

  -- the first chair (token) of a keep
  abbrev pub first_chair : Start C K → Sight C K
  first_chair key = waiting key 0

  -- what a cut does to a seat, and to the one that is cut off
  abbrev pub one_further : Sight C K → Sight C K
  one_further v = record v { cuts = v.cuts + 1 }

  abbrev pub cuts_in : List (Sight C K) → ℕ
  cuts_in [] = 0
  cuts_in (v ∷ rest) = v.cuts

  -- how many cuts away a seat is from the first chair
  abbrev pub cuts_of : Badge (Sight C K) → ℕ
  cuts_of chair = cuts_in chair.views

  -- The chair (token) is at this keep.
  pub record IsSeatedAt (keep : TableId) (key : Start C K) (chair : Badge (Sight C K)) : Type 0 where
    pub table : chair.table_id ≡ keep
    pub views : chair.views ≡ waiting key (cuts_of chair) ∷ []

  -- The seat has the value of this keep. This is what it was when the seat took it.
  pub record IsTakenOf {S : Type 0} (keep : TableId) (key : Start C K) (took : Snapshot C) (seat : Seat S (Sight C K)) : Type 0 where
    pub table : seat.table_id ≡ keep
    pub view : seat.me.0 ≡ holding key seat.me.0.cuts took

  -- It is of a seat that has found the value of this keep away.
  pub record IsBusyAt (keep : TableId) (key : Start C K) (busy : Busy C K) : Type 0 where
    pub table : busy.seat.table_id ≡ keep
    pub views : busy.seat.views ≡ refused key (cuts_of busy.seat) ∷ []

  -- It is of a seat that has taken the value from this keep, and given one back: these are the two.
  pub record IsGivenAt (keep : TableId) (key : Start C K) (given : Given C K) : Type 0 where
    pub table : given.seat.table_id ≡ keep
    pub views : given.seat.views ≡ given_back key (cuts_of given.seat) given.took given.gave ∷ []

  -- this seat has had the value
  abbrev pub HasHeld : List (Sight C K) → ℕ → Type 0
  HasHeld views j = (v : Sight C K) × (get_elem? views j ≡ some v) × (v.held ≡ true)

-- ---- visits

-- A seat took the value, and gave one back.
pub record Visit (C : Type 0) : Type 0 where
  pub by : ℕ
  pub cuts : ℕ
  pub took : Snapshot C
  pub gave : Snapshot C

module _ {C : Type 0} where
  -- The value that is there, or that was there last. The last visit comes first.
  abbrev pub last_of : Snapshot C → List (Visit C) → Snapshot C
  last_of first [] = first
  last_of first (v ∷ before) = v.gave

  -- each visit took what the one before it had given back, and the earliest the first value
  abbrev pub Follow : Snapshot C → List (Visit C) → Type 0
  Follow first [] = Unit {0}
  Follow first (v ∷ before) = (v.took ≡ last_of first before) × Follow first before

-- the word is 0 while the value is in the slot
abbrev pub taken_bit : {X : Type 0} → maybe.Option X → ℕ
taken_bit none = 1
taken_bit (some x) = 0

module _ {C K : Type 0} (fits : K → C → Type 0) where
  -- a value that is there and is of this place
  abbrev pub BelongsTo : K → Option C → Type 0
  BelongsTo place slot = (value : C) × (slot ≡ Some value) × fits place value

  -- A seat knows the place. The one that has the value is the holder, and then the slot is away. A seat has found the value
  -- away only if it was ever taken. A seat that gave the value back has made a visit, which took and gave the values that it
  -- knows.
  pub record SeatFits (key : Start C K) (holder : ℕ) (home : maybe.Option (Option C)) (ever : Bool) (visits : List (Visit C)) (by : ℕ) (v : Sight C K) : Type 0 where
    pub of : v.of ≡ key
    pub holds : v.holds ≡ true → (by ≡ holder) × (home ≡ none)
    pub refused : v.refused ≡ true → ever ≡ true
    pub gave : (gave : Snapshot C) → v.gave ≡ Some gave → (n : ℕ) × (took : Snapshot C) × (v.took ≡ Some took) × (get_elem? visits n ≡ some (record { by = by; cuts = v.cuts; took = took; gave = gave }))

  -- While the slot is away, one seat says that it has the value: it goes on saying so until the slot is home and the word 0. If
  -- the value was ever taken, the seat that took it last says that it has had it. Each visit is of a seat that says so.
  pub record HasOneHolder (key : Start C K) (s : State (Option C) (Sight C K)) : Type 0 where
    pub holder : ℕ
    pub home : maybe.Option (Option C)
    pub ever : Bool
    pub visits : List (Visit C)
    pub words : s.words ≡ taken_bit home ∷ []
    pub homes : s.homes ≡ home ∷ []
    pub value : (slot : Option C) → home ≡ some slot → BelongsTo key.place.value slot
    pub last : (slot : Option C) → home ≡ some slot → slot ≡ Some (last_of key.first visits).value
    pub away : home ≡ none → (cuts : ℕ) × (get_elem? s.views holder ≡ some (holding key cuts (last_of key.first visits)))
    pub taken : ever ≡ true → HasHeld s.views holder
    pub follow : Follow key.first visits
    pub made : (n : ℕ) (v : Visit C) → get_elem? visits n ≡ some v → get_elem? s.views v.by ≡ some (given_back key v.cuts v.took v.gave)
    pub each : (by : ℕ) (v : Sight C K) → get_elem? s.views by ≡ some v → SeatFits key holder home ever visits by v

  -- A swap of 1 into the word. If it was 0, the seat then has the value; otherwise it has found it away.
  pub record Grabbed (me : Me (Option C) (Sight C K)) (found : ℕ) (me' : Me (Option C) (Sight C K)) : Type 0 where
    pub free : found ≡ 0 → (took : Snapshot C) × (me' ≡ (holding me.0.of me.0.cuts took, (0, Some took.value) ∷ me.1)) × fits me.0.of.place.value took.value
    pub taken : found ≢ 0 → me' ≡ (refused me.0.of me.0.cuts, me.1)
    pub cuts : me'.0.cuts ≡ me.0.cuts

  -- the value has just been grabbed, and its slot is away with this seat
  abbrev pub HasGrabbed : Start C K → Me (Option C) (Sight C K) → Type 0
  HasGrabbed key me = (took : Snapshot C) × (me ≡ (holding key me.0.cuts took, (0, Some took.value) ∷ [])) × fits key.place.value took.value

  abbrev pub grabs : Step (Option C) → Me (Option C) (Sight C K) → ℕ → Me (Option C) (Sight C K) → Type 0
  grabs step me found me' = Grabbed me found me'

-- the store of 0: the seat that took the one value has given the other back, and no slot is away with it
abbrev pub releases : {C K : Type 0} → Step (Option C) → Me (Option C) (Sight C K) → ℕ → Me (Option C) (Sight C K) → Type 0
releases {C} step me stored me' = (took gave : Snapshot C) → me ≡ (holding me.0.of me.0.cuts took, (0, Some gave.value) ∷ []) → me' ≡ (given_back me.0.of me.0.cuts took gave, [])

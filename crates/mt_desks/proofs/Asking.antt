-- What a phase's lines ask of the program itself and of its lanes.
use Rattle.mt_desks.proofs.Prelude.{◌≡◌, ◌≢◌, ◌⊎◌, ℕ, ◌==◌, ◌&&◌, Bool, true, false, List, [], ◌∷◌, ◌++◌, map, refl, sym, ap, ◌∙◌, subst, inl, inr, AllByRecursion, and_parts, cases_Bool, eqb-true, false≢true, true≢false, recursion_from_All, Item, Tree, Join, Dup, Check, Write, Ask, Scan, Line, AreInPlaceFrom, IsInPlace, phase_after, stepped_after, Asked, asked_from, is_answered, lane_after, lane_of, asked_of_lane, IsOnePhase, asked_of, counts_in, is_count, is_join, is_step, lines_of_lane, steps_in}
use Rattle.mt_log.specs.declared.lines.Item.TheVariants.{Lane}

-- ---- a line is a lane's, or the program's own, or is not answered

record IsOfLane (here : ℕ) (item : Item) : Type 0 where
  step : is_step item ≡ true
  count : is_count item ≡ false
  answered : is_answered item ≡ true
  lane : lane_of here item ≡ here

record IsOwn (here : ℕ) (item : Item) : Type 0 where
  step : is_step item ≡ false
  count : is_count item ≡ true
  answered : is_answered item ≡ true
  lane : lane_of here item ≡ 0

record IsSilent (item : Item) : Type 0 where
  step : is_step item ≡ false
  count : is_count item ≡ false
  answered : is_answered item ≡ false

sorted : (here : ℕ) (item : Item) → IsOfLane here item ⊎ (IsOwn here item ⊎ IsSilent item)
sorted here (Tree name kind) = inr (inr (record { step = refl; count = refl; answered = refl }))
sorted here (Lane lane) = inr (inr (record { step = refl; count = refl; answered = refl }))
sorted here Join = inr (inr (record { step = refl; count = refl; answered = refl }))
sorted here (Dup from name) = inr (inl (record { step = refl; count = refl; answered = refl; lane = refl }))
sorted here (Check tree) = inr (inl (record { step = refl; count = refl; answered = refl; lane = refl }))
sorted here (Write tree call) = inl (record { step = refl; count = refl; answered = refl; lane = refl })
sorted here (Ask tree query) = inl (record { step = refl; count = refl; answered = refl; lane = refl })
sorted here (Scan tree index max count) = inl (record { step = refl; count = refl; answered = refl; lane = refl })

pub same_phase : (phase : ℕ) (item : Item) → is_join item ≡ false → phase_after phase item ≡ phase
same_phase phase Join other = absurd (true≢false other)
same_phase phase item other = refl

stepped_behind : (stepped : Bool) (item : Item) → is_step item ≡ true → stepped_after stepped item ≡ true
stepped_behind stepped (Write tree call) step = refl
stepped_behind stepped (Ask tree query) step = refl
stepped_behind stepped (Scan tree index max count) step = refl
stepped_behind stepped item step = absurd (false≢true step)

stays_stepped : (item : Item) → is_join item ≡ false → stepped_after true item ≡ true
stays_stepped Join other = absurd (true≢false other)
stays_stepped item other = refl

counted_first : (stepped : Bool) (item : Item) → is_count item ≡ true → IsInPlace stepped item → stepped ≡ false
counted_first stepped (Tree name kind) count place = place
counted_first stepped (Dup from name) count place = place
counted_first stepped (Check tree) count place = place
counted_first stepped item count place = absurd (false≢true count)

-- ---- copies and checks come first

abbrev AreOnePhase : List Line → Type 0
AreOnePhase lines = AllByRecursion (λ (line : Line). is_join line.item ≡ false) lines

none_left : (phase : ℕ) (lines : List Line) → AreOnePhase lines → AreInPlaceFrom true lines → counts_in phase lines ≡ []
none_left phase [] one placed = refl
none_left phase (line ∷ lines) one placed = elim (cases_Bool (is_count line.item)) [
  | inl t ↦ absurd (true≢false (counted_first true line.item t placed.0))
  | inr f ↦ rw f (none_left phase lines one.1 (subst (λ (z : Bool). AreInPlaceFrom z lines) (stays_stepped line.item one.0) placed.1))
]

parted : (stepped : Bool) (here phase : ℕ) (lines : List Line) → AreOnePhase lines → AreInPlaceFrom stepped lines → asked_from here phase lines ≡ counts_in phase lines ++ steps_in here phase lines
parted stepped here phase [] one placed = refl
parted stepped here phase (line ∷ lines) one placed =
    let next : ℕ = lane_after here line.item in
    let rest : asked_from next (phase_after phase line.item) lines ≡ counts_in phase lines ++ steps_in next phase lines = subst (λ (z : ℕ). asked_from next z lines ≡ counts_in phase lines ++ steps_in next phase lines) (sym (same_phase phase line.item one.0)) (parted (stepped_after stepped line.item) next phase lines one.1 placed.1) in
    elim (sorted here line.item) [
      | inl s ↦
          let none : counts_in phase lines ≡ [] = none_left phase lines one.1 (subst (λ (z : Bool). AreInPlaceFrom z lines) (stepped_behind stepped line.item s.step) placed.1) in
          rw (s.answered, s.step, s.count, s.lane, none) (ap (λ z. asked_of here phase line ∷ z) (rest ∙ ap (λ z. z ++ steps_in next phase lines) none))
      | inr (inl c) ↦ rw (c.answered, c.step, c.count, c.lane) (ap (λ z. asked_of 0 phase line ∷ z) rest)
      | inr (inr p) ↦ rw (p.answered, p.step, p.count) rest
    ]

pub counts_first : (stepped : Bool) (here phase : ℕ) (lines : List Line) → IsOnePhase lines → AreInPlaceFrom stepped lines → asked_from here phase lines ≡ counts_in phase lines ++ steps_in here phase lines
counts_first stepped here phase lines one placed = parted stepped here phase lines (recursion_from_All (λ (line : Line). is_join line.item ≡ false) lines one) placed

pub none_counted : (phase : ℕ) (lines : List Line) → IsOnePhase lines → AreInPlaceFrom true lines → counts_in phase lines ≡ []
none_counted phase lines one placed = none_left phase lines (recursion_from_All (λ (line : Line). is_join line.item ≡ false) lines one) placed

-- ---- what one lane is asked

pub own_asked : (lane here phase : ℕ) (lines : List Line) → asked_of_lane lane (steps_in here phase lines) ≡ map (asked_of lane phase) (lines_of_lane lane here lines)
own_asked lane here phase [] = refl
own_asked lane here phase (line ∷ lines) =
    let next : ℕ = lane_after here line.item in
    let rest : asked_of_lane lane (steps_in next phase lines) ≡ map (asked_of lane phase) (lines_of_lane lane next lines) = own_asked lane next phase lines in
    elim (cases_Bool (is_step line.item)) [
      | inl t ↦ elim (cases_Bool (here == lane)) [
        | inl u ↦ rw (t, u) (ap (λ z. asked_of here phase line ∷ z) rest ∙ ap (λ (z : ℕ). asked_of z phase line ∷ map (asked_of lane phase) (lines_of_lane lane next lines)) (eqb-true here lane u))
        | inr u ↦ rw (t, u) rest
      ]
      | inr f ↦ rw f rest
    ]

-- ---- what holds of the lines holds of what is asked

pub steps_keep : (Q : Item → Type 0) (here phase : ℕ) (lines : List Line) → AllByRecursion (λ (line : Line). Q line.item) lines → AllByRecursion (λ (a : Asked). Q a.item) (steps_in here phase lines)
steps_keep Q here phase [] h = tt
steps_keep Q here phase (line ∷ lines) h = elim (cases_Bool (is_step line.item)) [
  | inl t ↦ rw t (h.0, steps_keep Q (lane_after here line.item) phase lines h.1)
  | inr f ↦ rw f (steps_keep Q (lane_after here line.item) phase lines h.1)
]

pub counts_keep : (Q : Item → Type 0) (phase : ℕ) (lines : List Line) → AllByRecursion (λ (line : Line). Q line.item) lines → AllByRecursion (λ (a : Asked). Q a.item) (counts_in phase lines)
counts_keep Q phase [] h = tt
counts_keep Q phase (line ∷ lines) h = elim (cases_Bool (is_count line.item)) [
  | inl t ↦ rw t (h.0, counts_keep Q phase lines h.1)
  | inr f ↦ rw f (counts_keep Q phase lines h.1)
]

pub steps_numbered : (n here phase : ℕ) (lines : List Line) → AllByRecursion (λ (line : Line). line.number ≢ n) lines → AllByRecursion (λ (a : Asked). a.line ≢ n) (steps_in here phase lines)
steps_numbered n here phase [] h = tt
steps_numbered n here phase (line ∷ lines) h = elim (cases_Bool (is_step line.item)) [
  | inl t ↦ rw t (h.0, steps_numbered n (lane_after here line.item) phase lines h.1)
  | inr f ↦ rw f (steps_numbered n (lane_after here line.item) phase lines h.1)
]

-- what is done by a lane is a step, of which the same holds
pub own_keep : (Q : Item → Type 0) (lane here : ℕ) (lines : List Line) → AllByRecursion (λ (line : Line). Q line.item) lines → AllByRecursion (λ (line : Line). Q line.item × (is_step line.item ≡ true)) (lines_of_lane lane here lines)
own_keep Q lane here [] h = tt
own_keep Q lane here (line ∷ lines) h = elim (cases_Bool (is_step line.item && (here == lane))) [
  | inl t ↦ rw t ((h.0, (and_parts (is_step line.item) (here == lane) t).0), own_keep Q lane (lane_after here line.item) lines h.1)
  | inr f ↦ rw f (own_keep Q lane (lane_after here line.item) lines h.1)
]

-- ---- their phase

pub steps_of_phase : (here phase : ℕ) (lines : List Line) → AllByRecursion (λ (a : Asked). a.phase ≡ phase) (steps_in here phase lines)
steps_of_phase here phase [] = tt
steps_of_phase here phase (line ∷ lines) = elim (cases_Bool (is_step line.item)) [
  | inl t ↦ rw t (refl, steps_of_phase (lane_after here line.item) phase lines)
  | inr f ↦ rw f (steps_of_phase (lane_after here line.item) phase lines)
]

-- those of the program itself are told as lane 0's
pub counts_placed : (phase : ℕ) (lines : List Line) → AllByRecursion (λ (a : Asked). (a.phase ≡ phase) × (a.lane ≡ 0)) (counts_in phase lines)
counts_placed phase [] = tt
counts_placed phase (line ∷ lines) = elim (cases_Bool (is_count line.item)) [
  | inl t ↦ rw t ((refl, refl), counts_placed phase lines)
  | inr f ↦ rw f (counts_placed phase lines)
]

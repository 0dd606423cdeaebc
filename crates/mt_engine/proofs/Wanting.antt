-- Which stores replace rows, and which calls want some.
use Rattle.mt_engine.proofs.Prelude.{◌≡◌, ◌≢◌, ℕ, ◌+◌, ◌<◌, ◌≤◌, ◌==◌, ◌&&◌, ◌||◌, true, false, not, List, [], ◌∷◌, ◌++◌, Option, Some, None, nat_le, refl, sym, ap, ◌∙◌, inl, inr, arith, ne_eqb, eq-eqb, ◌⊎◌, IsSome, if◌then◌else◌, AllByRecursion, option_map, cases_Bool, cases_lt, and_left, and_right, and_parts, eqb-true, eqb-false, leb-true, lt-leb, le-leb, Call, Store, StorePre, Insert, Erase, Alloc, Ralloc, Gap, Rgap, Clear, Kind, Range, Reply, acted, is_invalid, IsMapFrom, holds, holding, overlaps, is_held, over, Wants, is_exact_store, entry_inside, Span, all_map, IsStoreBy, StoreBy, Replaces, is_refusal, range_of, IsSpanAt, IsStoreOf, is_by_rows, wants_by, Outside, outside_hole, store_none_beside, stored_holds, stored_some}
use Rattle.mt_base.specs.declared.replies.Reply.TheVariants as answers
use Rattle.mt_engine.proofs.MapQueries.{load_hole}

-- a call that replaces rows changes the map
pub replaces_changes : (kind : Kind) (m : List Range) (call : Call) → Replaces kind m call → (acted kind m call).0 ≢ m
replaces_changes kind m (Store first last entry) replaces = replaces.0
replaces_changes kind m (StorePre first last entry) replaces = replaces.0
replaces_changes kind m (Insert first last entry) replaces = replaces
replaces_changes kind m (Erase index) replaces = replaces
replaces_changes kind m (Alloc size lo hi entry) replaces = replaces
replaces_changes kind m (Ralloc size lo hi entry) replaces = replaces
replaces_changes kind m (Gap size lo hi) replaces = absurd replaces
replaces_changes kind m (Rgap size lo hi) replaces = absurd replaces
replaces_changes kind m Clear replaces = absurd replaces

pub stays_replaces_none : (kind : Kind) (m : List Range) (call : Call) (reply : Reply) → acted kind m call ≡ (m, reply) → Replaces kind m call → ⊥
stays_replaces_none kind m call reply stays replaces = replaces_changes kind m call replaces (ap (λ (p : List Range × Reply). p.0) stays)

-- a call that replaces none wants some only where it is to have them at hand
pub unwanted : (kind : Kind) (m : List Range) (call : Call) (by : StoreBy) → wants_by call by ≡ false → (Replaces kind m call → ⊥) → Wants kind m call → ⊥
unwanted kind m (Store first last entry) by not none wants = none wants
unwanted kind m (StorePre first last entry) by not none wants = absurd (cc)
unwanted kind m (Insert first last entry) by not none wants = none wants
unwanted kind m (Erase index) by not none wants = none wants
unwanted kind m (Alloc size lo hi entry) by not none wants = none wants
unwanted kind m (Ralloc size lo hi entry) by not none wants = none wants
unwanted kind m (Gap size lo hi) by not none wants = wants
unwanted kind m (Rgap size lo hi) by not none wants = wants
unwanted kind m Clear by not none wants = wants

-- a store by new rows wants them, and one that is to have them at hand wants them where it is not refused
pub wanted : (kind : Kind) (m m' : List Range) (call : Call) (reply : Reply) (by : StoreBy) → acted kind m call ≡ (m', reply) → is_refusal reply ≡ false → wants_by call by ≡ true → (is_by_rows by ≡ true → Replaces kind m call) → Wants kind m call
wanted kind m m' (Store first last entry) reply by acts success is replaces = replaces is
wanted kind m m' (StorePre first last entry) reply by acts success is replaces = elim (cases_Bool (is_invalid kind first last entry)) [
  | inl bad ↦
      (let told : acted kind m (Store first last entry) ≡ (m, answers.Invalid) = rw bad refl in
      let refused : is_refusal reply ≡ true = sym (ap (λ (p : List Range × Reply). is_refusal p.1) acts) ∙ ap (λ (p : List Range × Reply). is_refusal p.1) told in
      absurd (cc))
  | inr good ↦ good
]
wanted kind m m' (Insert first last entry) reply by acts success is replaces = replaces is
wanted kind m m' (Erase index) reply by acts success is replaces = replaces is
wanted kind m m' (Alloc size lo hi entry) reply by acts success is replaces = replaces is
wanted kind m m' (Ralloc size lo hi entry) reply by acts success is replaces = replaces is
wanted kind m m' (Gap size lo hi) reply by acts success is replaces = replaces is
wanted kind m m' (Rgap size lo hi) reply by acts success is replaces = replaces is
wanted kind m m' Clear reply by acts success is replaces = replaces is

-- ---- what is held

-- a range that holds an index holds one of those around it
pub held_around : (m : List Range) (first last index : ℕ) (r : Range) → first ≤ index → index ≤ last → holding m index ≡ Some r → is_held m first last ≡ true
held_around [] first last index r from to held = absurd (cc)
held_around (x ∷ m) first last index r from to held = elim (cases_Bool (holds index x)) [
  | inl here ↦
      (let parts = and_parts (nat_le x.first index) (nat_le index x.last) here in
      let begins = leb-true x.first index parts.0 in
      let ends = leb-true index x.last parts.1 in
      rw (le-leb x.first last (omega arith), le-leb first x.last (omega arith)) refl)
  | inr out ↦
      (let behind : holding m index ≡ Some r = rw out at held in
      elim (cases_Bool (overlaps first last x)) [
        | inl hit ↦ rw hit refl
        | inr miss ↦ rw miss (held_around m first last index r from to behind)
      ])
]

-- no range holds an index of those which all lie beside
none_beside : (m : List Range) (a b first last : ℕ) → AllByRecursion (Outside a b) m → a ≤ first → last ≤ b → is_held m first last ≡ false
none_beside [] a b first last each from to = refl
none_beside (x ∷ m) a b first last each from to = rw (misses each.0.1) (none_beside m a b first last each.1 from to)
  where
    misses : (x.last < a) ⊎ (b < x.first) → overlaps first last x ≡ false
    misses (inl below) = and_right (nat_le x.first last) (nat_le first x.last) (lt-leb first x.last (omega arith))
    misses (inr above) = and_left (nat_le x.first last) (nat_le first x.last) (lt-leb x.first last (omega arith))

pub none_in_hole : (m : List Range) (top first last : ℕ) (x : Span) → IsMapFrom 0 m → IsSpanAt m top first x → x.word ≡ 0 → last ≤ x.last → is_held m first last ≡ false
none_in_hole m top first last x rise at hole within = none_beside m x.first x.last first last (outside_hole m 0 x.first x.last rise (at.hole hole)) at.from within

-- ---- a store by no word

-- the store of a hole into a hole leaves the map
pub hole_over_hole : (m : List Range) (top first last : ℕ) (x : Span) → IsMapFrom 0 m → IsSpanAt m top first x → x.word ≡ 0 → first ≤ last → last ≤ x.last → over m first last 0 ≡ m
hole_over_hole m top first last x rise at hole order within =
    let from = at.from in
    store_none_beside m 0 first last order rise (all_map (Outside x.first x.last) (Outside first last) (λ r out. (out.0, narrow r from out.1)) m (outside_hole m 0 x.first x.last rise (at.hole hole)))
  where
    narrow : (r : Range) → x.first ≤ first → (r.last < x.first) ⊎ (x.last < r.first) → (r.last < first) ⊎ (last < r.first)
    narrow r from (inl below) = inl (omega arith)
    narrow r from (inr above) = inr (omega arith)

-- ---- a store by one word

-- a store of an entry over exactly one range replaces no rows, whichever call makes it
exact_stays : (kind : Kind) (m : List Range) (first last entry f l e : ℕ) (r : Range) → holding m first ≡ Some r → r.first ≡ first → r.last ≡ last → entry ≢ 0 → (f ≡ first) × (l ≡ last) × (e ≡ entry) → Wants kind m (Store f l e) → ⊥
exact_stays kind m first last entry f l e r held begins ends some own wants =
    let exact : is_exact_store m first last entry ≡ true = rw (ne_eqb entry 0 some, held, eq-eqb r.first first begins, eq-eqb r.last last ends) refl in
    let clash : true ≡ false = sym exact ∙ ((λ i. is_exact_store m (sym own.0 i) (sym own.1 i) (sym own.2 i)) ∙ wants.1) in
    absurd (cc)

not_taken : (m : List Range) (first last : ℕ) → is_held m first last ≡ true → is_held m first last ≡ false → ⊥
not_taken m first last taken free = absurd (cc)

pub exact_replaces_none : (kind : Kind) (m : List Range) (first last entry : ℕ) (call : Call) (r : Range) → holding m first ≡ Some r → r.first ≡ first → r.last ≡ last → first ≤ last → entry ≢ 0 → IsStoreOf m call first last entry → Replaces kind m call → ⊥
exact_replaces_none kind m first last entry (Store f l e) r held begins ends order some own wants = exact_stays kind m first last entry f l e r held begins ends some own wants
exact_replaces_none kind m first last entry (StorePre f l e) r held begins ends order some own wants = exact_stays kind m first last entry f l e r held begins ends some own wants
exact_replaces_none kind m first last entry (Insert f l e) r held begins ends order some own wants =
    let taken : is_held m f l ≡ true = (λ i. is_held m (own.0 i) (own.1 i)) ∙ held_around m first last first r (omega arith) order held in
    wants (elim (cases_Bool (is_invalid kind f l e || (e == 0))) [ inl bad ↦ rw bad refl | inr good ↦ rw (good, taken) refl ])
exact_replaces_none kind m first last entry (Erase index) r held begins ends order some own wants = some own
exact_replaces_none kind m first last entry (Alloc size lo hi e) r held begins ends order some own wants = not_taken m first last (held_around m first last first r (omega arith) order held) own.free
exact_replaces_none kind m first last entry (Ralloc size lo hi e) r held begins ends order some own wants = not_taken m first last (held_around m first last first r (omega arith) order held) own.free
exact_replaces_none kind m first last entry (Gap size lo hi) r held begins ends order some own wants = own
exact_replaces_none kind m first last entry (Rgap size lo hi) r held begins ends order some own wants = own
exact_replaces_none kind m first last entry Clear r held begins ends order some own wants = own

-- ---- a store by new rows

none_mapped : {A B : Type 0} (f : A → B) (o : Option A) → option_map f o ≡ None → o ≡ None
none_mapped f None none = refl
none_mapped f (Some a) none = absurd (cc)

none_held : (o : Option Range) → o ≡ None → IsSome o → ⊥
none_held None none some = absurd (cc)
none_held (Some r) none some = absurd (cc)

-- A store that is neither of a hole into a hole, nor of an entry over exactly one range.
module _ (m : List Range) (top first last entry : ℕ) (x : Span) (rise : IsMapFrom 0 m) (at : IsSpanAt m top first x) (order : first ≤ last) (within : last ≤ top)
    (no_hole : (entry ≡ 0) × (x.word ≡ 0) × (last ≤ x.last) → ⊥) (not_exact : (entry ≢ 0) × (x.word ≢ 0) × (x.first ≡ first) × (x.last ≡ last) → ⊥) where
  -- where it leaves the map, and stores a hole, no index of it is held
  none_there : over m first last entry ≡ m → entry ≡ 0 → (index : ℕ) → first ≤ index → index ≤ last → holding m index ≡ None
  none_there same none index from to =
      let after : option_map (λ (r : Range). r.entry) (holding (over m first last entry) index) ≡ None = entry_inside m first last entry index from to ∙ ap (λ (e : ℕ). if e == 0 then None else Some entry) none in
      ap (λ (l : List Range). holding l index) (sym same) ∙ none_mapped (λ (r : Range). r.entry) (holding (over m first last entry) index) after

  hole_changes : over m first last entry ≡ m → entry ≡ 0 → ⊥
  hole_changes same none = elim (cases_Bool (x.word == 0)) [
    | inl hole ↦ elim (cases_lt x.last last) [
      | inl more ↦
          (let from = at.from in let to = at.to in
          none_held (holding m (x.last + 1)) (none_there same none (x.last + 1) (omega arith) (omega arith)) (at.behind (eqb-true x.word 0 hole) (omega arith)))
      | inr all ↦ no_hole (none, eqb-true x.word 0 hole, all)
    ]
    | inr word ↦
        (let gone = none_there same none first (omega arith) order in
        let both : None ≡ Some (range_of x) = sym gone ∙ at.held (eqb-false x.word 0 word) in
        absurd (cc))
  ]

  entry_changes : over m first last entry ≡ m → entry ≢ 0 → ⊥
  entry_changes same some =
      let r : Range = record { first = first; last = last; entry = entry } in
      let stored : holding m first ≡ Some r = ap (λ (l : List Range). holding l first) (sym same) ∙ stored_holds m first last entry order (ne_eqb entry 0 some) in
      elim (cases_Bool (x.word == 0)) [
        | inl hole ↦ (let both : None ≡ Some r = load_hole m top first x rise at (eqb-true x.word 0 hole) ∙ stored in absurd (cc))
        | inr word ↦
            (let both : Some (range_of x) ≡ Some r = sym (at.held (eqb-false x.word 0 word)) ∙ stored in
            let is : range_of x ≡ r = cc in
            not_exact (some, eqb-false x.word 0 word, ap (λ (y : Range). y.first) is, ap (λ (y : Range). y.last) is))
      ]

  changes : over m first last entry ≢ m
  changes same = elim (cases_Bool (entry == 0)) [ inl none ↦ hole_changes same (eqb-true entry 0 none) | inr some ↦ entry_changes same (eqb-false entry 0 some) ]

  pub inexact : is_exact_store m first last entry ≡ false
  inexact = elim (cases_Bool (entry == 0)) [
    | inl none ↦ rw none refl
    | inr some ↦ elim (cases_Bool (x.word == 0)) [
      | inl hole ↦ rw (some, ← load_hole m top first x rise at (eqb-true x.word 0 hole)) refl
      | inr word ↦ elim (cases_Bool ((x.first == first) && (x.last == last))) [
        | inl both ↦
            (let parts = and_parts (x.first == first) (x.last == last) both in
            absurd (not_exact (eqb-false entry 0 some, eqb-false x.word 0 word, eqb-true x.first first parts.0, eqb-true x.last last parts.1)))
        | inr other ↦ rw (some, at.held (eqb-false x.word 0 word)) other
      ]
    ]
  ]

replaces_by : (kind : Kind) (m : List Range) (first last entry : ℕ) (call : Call) → (acted kind m call).0 ≢ m → is_exact_store m first last entry ≡ false → IsStoreOf m call first last entry → Replaces kind m call
replaces_by kind m first last entry (Store f l e) leaves other own = (leaves, (λ i. is_exact_store m (own.0 i) (own.1 i) (own.2 i)) ∙ other)
replaces_by kind m first last entry (StorePre f l e) leaves other own = (leaves, (λ i. is_exact_store m (own.0 i) (own.1 i) (own.2 i)) ∙ other)
replaces_by kind m first last entry (Insert f l e) leaves other own = leaves
replaces_by kind m first last entry (Erase index) leaves other own = leaves
replaces_by kind m first last entry (Alloc size lo hi e) leaves other own = leaves
replaces_by kind m first last entry (Ralloc size lo hi e) leaves other own = leaves
replaces_by kind m first last entry (Gap size lo hi) leaves other own = own
replaces_by kind m first last entry (Rgap size lo hi) leaves other own = own
replaces_by kind m first last entry Clear leaves other own = own

pub store_replaces : (kind : Kind) (m : List Range) (top first last entry : ℕ) (call : Call) (reply : Reply) (x : Span) → IsMapFrom 0 m → IsStoreBy kind top m call reply first last entry → IsStoreOf m call first last entry → IsSpanAt m top first x
    → ((entry ≡ 0) × (x.word ≡ 0) × (last ≤ x.last) → ⊥) → ((entry ≢ 0) × (x.word ≢ 0) × (x.first ≡ first) × (x.last ≡ last) → ⊥) → Replaces kind m call
store_replaces kind m top first last entry call reply x rise store own at no_hole not_exact =
    replaces_by kind m first last entry call
    (λ same. changes m top first last entry x rise at store.order store.within no_hole not_exact (sym (ap (λ (p : List Range × Reply). p.0) store.acts) ∙ same))
    (inexact m top first last entry x rise at store.order store.within no_hole not_exact) own

-- a store of an entry into the empty map
pub first_store_replaces : (kind : Kind) (top first last entry : ℕ) (call : Call) (reply : Reply) → IsStoreBy kind top [] call reply first last entry → IsStoreOf [] call first last entry → entry ≢ 0 → Replaces kind [] call
first_store_replaces kind top first last entry call reply store own some = replaces_by kind [] first last entry call leaves (and_right (not (entry == 0)) false refl) own
  where
    leaves : (acted kind [] call).0 ≢ []
    leaves same =
        let none : over [] first last entry ≡ [] = sym (ap (λ (p : List Range × Reply). p.0) store.acts) ∙ same in
        let stored : Range = record { first = first; last = last; entry = entry } in
        let one : over [] first last entry ≡ stored ∷ [] = ap (λ (l : List Range). l ++ []) (stored_some first last entry (ne_eqb entry 0 some)) in
        let both : stored ∷ [] ≡ [] = sym one ∙ none in
        absurd (cc)

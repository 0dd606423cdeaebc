-- A walk that keeps no ends of the rows that it comes to.
use Rattle.mt_read.proofs.Prelude.{◌≡◌, ◌≢◌, ℕ, ◌+◌, ◌*◌, ◌<◌, ◌≤◌, ◌==◌, Option, Some, None, nat_le, inl, inr, refl, sym, ap, ◌∙◌, subst, arith, min, slice_get, option_map, cases_Bool, cases_lt, and_right, eqb-true, eqb-false, lt-leb, le-leb, Range, Width, Long, Short, greatest_of, deepest, RowKind, slots_of, Held, copy_of, spans_at, slot_for, span_at, PassPart, IsLeafRead, here, spans_here, SlotPlace, Spot, not_below, CoversHere, IsAtLeaf, IsAtSpot, row_here, row_steps, lines_touched, GoesOn, IsOnLeaf, IsPlaceIn, SeesMore, WasRead, range_or_hole}
use Rattle.std.proofs.Common.{mul-add}
use Rattle.mt_layout.specs.declared.names.RowKind.TheVariants as kinds
use Rattle.mt_read.proofs.Descending.{here_more, place_within}
use Rattle.mt_read.proofs.Finding.{place_in, spot_more}
use Rattle.mt_read.proofs.Reading.{hole_is, range_is}

-- ---- the place that a search finds

module _ (q : PassPart) (spot : Spot) (on : IsAtSpot q spot) (index slot : ℕ) (covers : CoversHere q index) (is : slot ≡ slot_for (spans_here q (here q)) index) where
  abbrev pub place_at : SlotPlace
  place_at = record { slot = slot; first = (span_at (spans_here q (here q)) slot).first; last = (span_at (spans_here q (here q)) slot).last }

  pub placed : IsPlaceIn q place_at × (place_at.first ≤ index) × (index ≤ place_at.last)
  placed = place_in q (row_here q spot) on index slot place_at.first place_at.last covers.0 covers.1 is refl refl

  pub place_low : place_at.last ≤ greatest_of q.shape.kind
  place_low = let inside = (place_within q (row_here q spot) place_at on placed.0).2 in let most = on.within in omega arith

-- ---- what stays where the pass has only seen more

pub covers_more : (q q' : PassPart) (index : ℕ) → SeesMore q q' → CoversHere q index → CoversHere q' index
covers_more q q' index s covers = subst (λ (x : Held). (x.extent.first ≤ index) × (index ≤ x.extent.last)) (sym (here_more q q' s)) covers

pub slot_more : (q q' : PassPart) (index slot : ℕ) → SeesMore q q' → slot ≡ slot_for (spans_here q (here q)) index → slot ≡ slot_for (spans_here q' (here q')) index
slot_more q q' index slot s is = is ∙ ap (λ (z : PassPart). slot_for (spans_here z (here z)) index) (sym s.is)

pub on_leaf : (q : PassPart) (leaf : Spot) → IsAtLeaf q leaf → IsOnLeaf q (row_here q leaf)
on_leaf q leaf at = record { on = at.on; level = at.level }

pub leaf_more : (q q' : PassPart) (leaf : Spot) → SeesMore q q' → IsAtLeaf q leaf → IsAtLeaf q' leaf
leaf_more q q' leaf s at = record { on = spot_more q q' leaf s at.on; level = ap (λ (x : Held). x.extent.level) (here_more q q' s) ∙ at.level }

pub was_before : (q q₁ q₂ : PassPart) (place : SlotPlace) (found : Option Range) → here q₁ ≡ here q → WasRead q₁ q₂ place found → WasRead q q₂ place found
was_before q q₁ q₂ place found same was = record {
  read = subst (λ (x : Held). IsLeafRead q₂ x (here q₂)) same was.read;
  entry = was.entry;
  stands = subst (λ (x : Held). slice_get (spans_at q₂.shape.kind (copy_of (here q₂)) x.row x.extent) place.slot ≡ Some (record { first = place.first; last = place.last; word = was.entry })) same was.stands;
  found_is = was.found_is;
}

-- ---- the entry of a range that was read

pub entry_is : (place : SlotPlace) (entry index to end : ℕ) (result : Option ℕ) → to ≡ min index end → place.last ≤ end → to ≤ place.last
    → (entry ≡ 0 → result ≡ None) → ((to ≡ index → ⊥) → result ≡ None) → (entry ≢ 0 → to ≡ index → result ≡ Some entry)
    → result ≡ option_map (λ (r : Range). r.entry) (not_below index index (range_or_hole place entry))
entry_is place entry index to end result goes within high none above some = elim (cases_Bool (entry == 0)) [
  | inl zero ↦
      (let hole = eqb-true entry 0 zero in
      none hole ∙ sym (ap (λ (o : Option Range). option_map (λ (r : Range). r.entry) (not_below index index o)) (hole_is place entry hole)))
  | inr held ↦
      (let entry_there = eqb-false entry 0 held in
      let range : Option Range = Some (record { first = place.first; last = place.last; entry = entry }) in
      let is : range_or_hole place entry ≡ range = range_is place entry entry_there in
      elim (cases_lt place.last index) [
        | inl past ↦
            above (λ same. absurd (omega arith))
            ∙ sym (ap (λ (o : Option Range). option_map (λ (r : Range). r.entry) (not_below index index o)) is
            ∙ rw (and_right (nat_le index index) (nat_le index place.last) (lt-leb index place.last past)) refl)
        | inr low ↦
            some entry_there (omega arith)
            ∙ sym (ap (λ (o : Option Range). option_map (λ (r : Range). r.entry) (not_below index index o)) is
            ∙ rw (le-leb index index (omega arith), le-leb index place.last low) refl)
      ])
]

-- ---- steps

pub touches_few : (w : Width) → lines_touched w ≤ 4
touches_few Long = omega arith
touches_few Short = omega arith

pub lines_few : (w : Width) (before middle after : ℕ) → middle ≡ before + 2 → after ≤ middle + 2 → (w ≡ Long → after ≡ middle) → after ≤ before + lines_touched w
lines_few Long before middle after first more none = let same = none refl in omega arith
lines_few Short before middle after first more none = omega arith

-- a search with its touches is shorter than a walk along the slots
pub seek_few : (w : Width) (kind : RowKind) (before middle after : ℕ) → middle ≤ before + lines_touched w → after + 5 ≤ middle + slots_of w kind → after ≤ middle + 7 → after + 3 ≤ before + slots_of w kind
seek_few Long kind before middle after first few seven = omega arith
seek_few Short kinds.Leaf before middle after first few seven = omega arith
seek_few Short kinds.Inner before middle after first few seven = omega arith
seek_few Short kinds.Gapped before middle after first few seven = omega arith

-- from the root to a leaf, and in the leaf
pub steps_root : (w : Width) (kind : RowKind) (level : ℕ) → slots_of w kind * level ≤ 128 → level < deepest → (lines_touched w + 8) * level + (lines_touched w + 8) ≤ 90
steps_root Long kind level all low = omega arith
steps_root Short kinds.Leaf level all low = omega arith
steps_root Short kinds.Inner level all low = omega arith
steps_root Short kinds.Gapped level all low = omega arith

-- a walk goes a level down
pub one_down : (s t below level before after : ℕ) → below + 1 ≡ level → s ≡ t → after ≤ before + t → after + s * below ≤ before + t * level
one_down s t below level before after next same few =
    let more = ap (λ (n : ℕ). t * n) next in let turned = ap (λ (n : ℕ). n * below) same in omega (arith, more, turned, mul-add t below 1)

-- no step changes how many a row takes
pub row_steps_kept : (q q' : PassPart) → GoesOn q q' → row_steps q' ≡ row_steps q
row_steps_kept q q' goes = ap row_steps goes.is

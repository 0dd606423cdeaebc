-- What a load of a leaf's slot tells.
use Rattle.mt_read.proofs.Prelude.{◌≡◌, ◌≢◌, ℕ, ◌+◌, ◌*◌, ◌≤◌, ◌==◌, List, [], length, nat_lt, Option, Some, None, inl, inr, refl, sym, ap, ◌∙◌, subst, arith, IfNone, IfSome, slice_index, slice_get, cases_Bool, eqb-true, eqb-false, eq-eqb, ne_eqb, Kind, Range, Query, Load, Find, IsMap, answer, columns, greatest_of, kind_width, begins_long, Leaf, Span, slot_column, slots_of, Extent, Held, Snapshot, copy_of, HasPart, SameForm, spans_at, slot_of_form, hole_of_form, kind_at, column, PassPart, column_at, LoadedEntry, LoadedSlot, here, moment_seen, slots_in, Row, SlotPlace, Answers, LeafAnswers, GoesOn, IsOnRow, IsOnLeaf, IsPlaceIn, IsSameHold, SeesMore, WasRead, range_or_hole}
use Rattle.mt_read.proofs.Descending.{place_within}
use Rattle.mt_read.proofs.Standing.{form_on}
use Rattle.mt_read.proofs.SlotAnswers.{load_entry, load_none, find_entry, find_end, find_behind, behind_in}

pub leaf_kind : (q : PassPart) (leaf : Row) → IsOnLeaf q leaf → leaf.kind ≡ Leaf
leaf_kind q leaf at = at.on.kind ∙ ap (kind_at q.shape.kind) at.level

module _ (q q' : PassPart) (leaf : Row) (place : SlotPlace) (col entry : ℕ) (at : IsOnLeaf q leaf) (is : IsPlaceIn q place) (slot : col ≡ slot_column (slots_in q (here q)) place.slot)
    (told : LoadedSlot (column_at (kind_width q.shape.kind) leaf.at.number col) entry q q') where
  abbrev x : Held
  x = here q

  abbrev y : Held
  y = here q'

  enters : LoadedEntry (column_at (kind_width q.shape.kind) leaf.at.number col) entry q q'
  enters = told.entry at.level

  kind : q'.shape.kind ≡ q.shape.kind
  kind = ap (λ (z : PassPart). z.shape.kind) enters.reads.is

  -- the entry is the word of the slot
  word_is : entry ≡ column (copy_of y) x.row (slot_column (slots_of y.width (kind_at q'.shape.kind x.extent.level)) place.slot)
  word_is =
      let wide : y.width ≡ kind_width q.shape.kind = enters.read.width ∙ at.on.width in
      enters.found_is ∙ ((λ i. slice_index y.copy (columns (sym wide i) * at.on.number i + slot i)) ∙ (λ i. column (copy_of y) x.row (slot_column (slots_of (sym wide i) (kind_at (sym kind i) x.extent.level)) place.slot)))

  pub was_read : (found : Option Range) → found ≡ range_or_hole place entry → WasRead q q' place found
  was_read found is_found = record {
    read = enters.read;
    entry = entry;
    stands = slot_of_form q'.shape.kind (copy_of x) (copy_of y) x.row place.slot x.extent _ enters.read.width enters.read.form
        (subst (λ (k : Kind). slice_get (spans_at k (copy_of x) x.row x.extent) place.slot ≡ Some (record { first = place.first; last = place.last; word = is.word })) (sym kind) is.stands)
        ∙ (λ i. Some (record { first = place.first; last = place.last; word = sym word_is i }));
    found_is = is_found;
  }

-- ---- what it answers

abbrev pub span_of : SlotPlace → ℕ → Span
span_of place entry = record { first = place.first; last = place.last; word = entry }

pub range_is : (place : SlotPlace) (entry : ℕ) → entry ≢ 0 → range_or_hole place entry ≡ Some (record { first = place.first; last = place.last; entry = entry })
range_is place entry some = rw (ne_eqb entry 0 some) refl

pub hole_is : (place : SlotPlace) (entry : ℕ) → entry ≡ 0 → range_or_hole place entry ≡ None
hole_is place entry none = rw (eq-eqb entry 0 none) refl

pub some_entry : (place : SlotPlace) (entry : ℕ) (r : Range) → Some r ≡ range_or_hole place entry → entry ≢ 0
some_entry place entry r is none = let clash : Some r ≡ None = is ∙ hole_is place entry none in absurd cc

pub no_entry : (place : SlotPlace) (entry : ℕ) → None ≡ range_or_hole place entry → entry ≡ 0
no_entry place entry is = elim (cases_Bool (entry == 0)) [
  | inl none ↦ eqb-true entry 0 none
  | inr some ↦ (let clash : None ≡ Some (record { first = place.first; last = place.last; entry = entry }) = is ∙ range_is place entry (eqb-false entry 0 some) in absurd cc)
]

range_last : (place : SlotPlace) (entry : ℕ) (r : Range) → Some r ≡ range_or_hole place entry → r.last ≡ place.last
range_last place entry r is =
    let same : Some r ≡ Some (record { first = place.first; last = place.last; entry = entry }) = is ∙ range_is place entry (some_entry place entry r is) in
    let one : r ≡ record { first = place.first; last = place.last; entry = entry } = cc in
    ap (λ (z : Range). z.last) one

-- a range that was read in a leaf ends there
pub ends_in_leaf : (q q' : PassPart) (leaf : Row) (place : SlotPlace) (found : Option Range) → IsOnRow q leaf → IsPlaceIn q place → WasRead q q' place found → IfSome found (λ (r : Range). (leaf.min ≤ r.last) × (r.last ≤ leaf.max))
ends_in_leaf q q' leaf place None on is was = tt
ends_in_leaf q q' leaf place (Some r) on is was =
    let inside = place_within q leaf place on is in
    let first = inside.0 in let order = inside.1 in let last = inside.2 in
    let same = range_last place was.entry r was.found_is in let min = on.min in let max = on.max in
    (omega arith, omega arith)

pub kind_goes : (q q' : PassPart) → GoesOn q q' → q'.shape.kind ≡ q.shape.kind
kind_goes q q' goes = ap (λ (z : PassPart). z.shape.kind) goes.is

pub kind_told : {A : Type 0} (o : Option A) (q q' : PassPart) (P : Type 0) → IfSome o (λ x. GoesOn q q') → IfNone o P → (P → q'.shape.kind ≡ q.shape.kind) → q'.shape.kind ≡ q.shape.kind
kind_told None q q' P goes none of = of none
kind_told (Some x) q q' P goes none of = kind_goes q q' goes

-- what the map answered at the moment at which a slot was read
abbrev pub answers_read : (q q' : PassPart) (place : SlotPlace) (found : Option Range) (was : WasRead q q' place found) (query : Query) (value : Option Range) → value ≡ answer (moment_seen q' was.read.k).ranges query → Answers q' (here q).since query value
answers_read q q' place found was query value is = record { k = was.read.k; low = was.read.low; high = was.read.high; map = was.read.map; is = is }

module _ (q q' : PassPart) (place : SlotPlace) (found : Option Range) (level : (here q).extent.level ≡ 0) (was : WasRead q q' place found) (index : ℕ) (from : place.first ≤ index) (to : index ≤ place.last) where
  abbrev m : List Range
  m = (moment_seen q' was.read.k).ranges

  pub loads : Answers q' (here q).since (Load index) found
  loads = record {
    k = was.read.k;
    low = was.read.low;
    high = was.read.high;
    map = was.read.map;
    is = was.found_is ∙ elim (cases_Bool (was.entry == 0)) [
      | inl none ↦ (let hole = eqb-true was.entry 0 none in
          hole_is place was.entry hole ∙ load_none q'.shape.kind m was.read.map (copy_of (here q')) (here q).row (here q).extent level was.read.shape was.read.part.ranges place.slot (span_of place was.entry) was.stands index from to hole)
      | inr some ↦ (let entry = eqb-false was.entry 0 some in
          range_is place was.entry entry ∙ load_entry q'.shape.kind m was.read.map (copy_of (here q')) (here q).row (here q).extent level was.read.shape was.read.part.ranges place.slot (span_of place was.entry) was.stands index from to entry)
    ];
  }

  -- the leaf stood then
  pub stood_here : Snapshot q'.shape.kind (here q) (moment_seen q' was.read.k)
  stood_here = record { table = copy_of (here q'); width = was.read.width; form = was.read.form; part = was.read.part }

  pub finds_here : (r : Range) → found ≡ Some r → q'.shape.kind ≡ q.shape.kind → LeafAnswers q' (here q) (Find index (greatest_of q.shape.kind)) (Some r)
  finds_here r is kind =
      let entry = some_entry place was.entry r (sym is ∙ was.found_is) in
      record {
        answers = answers_read q q' place found was (Find index (greatest_of q.shape.kind)) (Some r)
            (sym is ∙ (was.found_is ∙ (range_is place was.entry entry
            ∙ (find_entry q'.shape.kind m was.read.map (copy_of (here q')) (here q).row (here q).extent level was.read.shape was.read.part.ranges place.slot (span_of place was.entry) was.stands index from to entry
            ∙ ap (λ (k : Kind). answer m (Find index (greatest_of k))) kind))));
        now = was.read.now;
        stood = stood_here;
      }

  pub finds_none : found ≡ None → q'.shape.kind ≡ q.shape.kind → (here q).width ≡ kind_width q.shape.kind → place.last ≡ (here q).extent.last → (here q).extent.last ≤ greatest_of q.shape.kind → LeafAnswers q' (here q) (Find index (greatest_of q.shape.kind)) None
  finds_none is kind wide last low =
      let hole = no_entry place was.entry (sym is ∙ was.found_is) in
      record {
        answers = answers_read q q' place found was (Find index (greatest_of q.shape.kind)) None
            (find_end q'.shape.kind m was.read.map (copy_of (here q')) (here q).row (here q).extent level was.read.shape was.read.part.ranges place.slot (span_of place was.entry) was.stands index from to hole last
            (was.read.width ∙ (wide ∙ ap kind_width (sym kind))) (subst (λ (k : Kind). (here q).extent.last ≤ greatest_of k) (sym kind) low)
            ∙ ap (λ (k : Kind). answer m (Find index (greatest_of k))) kind);
        now = was.read.now;
        stood = stood_here;
      }

  -- the hole stands there still, as another slot is read
  module _ (q₂ q₃ : PassPart) (same : IsSameHold (here q) (here q')) (sees : SeesMore q' q₂) (goes : GoesOn q q') (on : GoesOn q₂ q₃) (next : SlotPlace) (answered : Option Range) (was₃ : WasRead q₂ q₃ next answered) where
    pub here_is : here q₂ ≡ here q'
    here_is = ap here sees.is

    pub row_same : (here q₂).row ≡ (here q).row
    row_same = ap (λ (z : Held). z.row) (here_is ∙ same.is)

    pub extent_same : (here q₂).extent ≡ (here q).extent
    extent_same = ap (λ (z : Held). z.extent) (here_is ∙ same.is)

    pub kind_same : q₃.shape.kind ≡ q'.shape.kind
    kind_same = kind_goes q₂ q₃ on ∙ ap (λ (z : PassPart). z.shape.kind) sees.is

    there : slice_get (spans_at q₃.shape.kind (copy_of (here q₂)) (here q₂).row (here q₂).extent) place.slot ≡ Some (span_of place was.entry)
    there = (λ i. slice_get (spans_at (kind_same i) (copy_of (here_is i)) (row_same i) (extent_same i)) place.slot) ∙ was.stands

    abbrev pub word : ℕ
    word = column (copy_of (here q₃)) (here q₂).row (slot_column (slots_of (here q₃).width (kind_at q₃.shape.kind (here q₂).extent.level)) place.slot)

    pub still : slice_get (spans_at q₃.shape.kind (copy_of (here q₃)) (here q₂).row (here q₂).extent) place.slot ≡ Some (span_of place word)
    still = slot_of_form q₃.shape.kind (copy_of (here q₂)) (copy_of (here q₃)) (here q₂).row place.slot (here q₂).extent _ was₃.read.width was₃.read.form there

    pub still_hole : was.entry ≡ 0 → word ≡ 0
    still_hole hole = eqb-true word 0 (hole_of_form q₃.shape.kind (copy_of (here q₂)) (copy_of (here q₃)) (here q₂).row place.slot (here q₂).extent _ _ was₃.read.width was₃.read.form there still ∙ eq-eqb was.entry 0 hole)

    pub level_same : (here q₂).extent.level ≡ 0
    level_same = ap (λ (e : Extent). e.level) extent_same ∙ level

    pub kind_all : q₃.shape.kind ≡ q.shape.kind
    kind_all = kind_same ∙ kind_goes q q' goes

    pub stood_behind : Snapshot q₃.shape.kind (here q) (moment_seen q₃ was₃.read.k)
    stood_behind =
        let kind₃ = q₃.shape.kind in let level = (here q).extent.level in
        let first : SameForm (copy_of (here q)) (copy_of (here q')) (kind_at kind₃ level) (here q).row = subst (λ (k : Kind). SameForm (copy_of (here q)) (copy_of (here q')) (kind_at k level) (here q).row) (sym kind_same) was.read.form in
        let moved : SameForm (copy_of (here q')) (copy_of (here q₃)) (kind_at kind₃ (here q').extent.level) (here q').row =
        subst (λ (h : Held). SameForm (copy_of h) (copy_of (here q₃)) (kind_at kind₃ h.extent.level) h.row) here_is was₃.read.form in
        let more : SameForm (copy_of (here q')) (copy_of (here q₃)) (kind_at kind₃ level) (here q).row = subst (λ (h : Held). SameForm (copy_of (here q')) (copy_of (here q₃)) (kind_at kind₃ h.extent.level) h.row) same.is moved in
        record {
          table = copy_of (here q₃);
          width = was₃.read.width ∙ (ap (λ (h : Held). h.width) here_is ∙ was.read.width);
          form = form_on (kind_at kind₃ level) (here q).row (copy_of (here q)) (copy_of (here q')) (copy_of (here q₃)) was.read.width first more;
          part = subst (λ (h : Held). HasPart kind₃ (copy_of (here q₃)) h.row h.extent (moment_seen q₃ was₃.read.k)) (here_is ∙ same.is) was₃.read.part;
        }

    pub finds_behind : found ≡ None → next.slot ≡ place.slot + 1 → (here q).extent.last ≤ greatest_of q.shape.kind → LeafAnswers q₃ (here q) (Find index (greatest_of q.shape.kind)) answered
    finds_behind is slot within =
        let read = was₃.read in
        let spans = spans_at q₃.shape.kind (copy_of (here q₃)) (here q₂).row (here q₂).extent in
        let m₃ = (moment_seen q₃ read.k).ranges in
        let hole = still_hole (no_entry place was.entry (sym is ∙ was.found_is)) in
        let at' : slice_get spans (place.slot + 1) ≡ Some (span_of next was₃.entry) = ap (slice_get spans) (sym slot) ∙ was₃.stands in
        let behind = behind_in (here q₂).extent.first ((here q₂).extent.last + 1) place.slot spans (span_of place word) (span_of next was₃.entry) read.shape.fills still at' in
        let entry = behind.3 (read.shape.apart level_same) hole in
        let low : (here q₂).extent.last ≤ greatest_of q₃.shape.kind = subst (λ (e : Extent). e.last ≤ greatest_of q₃.shape.kind) (sym extent_same) (subst (λ (k : Kind). (here q).extent.last ≤ greatest_of k) (sym kind_all) within) in
        let since : (here q₂).since ≡ (here q).since = ap (λ (z : Held). z.since) (here_is ∙ same.is) in
        let least = read.low in
        record {
          answers = record {
            k = read.k;
            low = omega arith;
            high = read.high;
            map = read.map;
            is = was₃.found_is ∙ (range_is next was₃.entry entry
                ∙ (find_behind q₃.shape.kind m₃ read.map (copy_of (here q₃)) (here q₂).row (here q₂).extent level_same read.shape read.part.ranges place.slot (span_of place word) still index from to (span_of next was₃.entry) at' hole low
                ∙ ap (λ (k : Kind). answer m₃ (Find index (greatest_of k))) kind_all));
          };
          now = read.now;
          stood = stood_behind;
        }

-- ---- the empty tree

pub nothing_is_a_map : (kind : Kind) (m : List Range) → m ≡ [] → IsMap kind m
nothing_is_a_map kind m none = subst (IsMap kind) (sym none) (record { rise = tt; within = tt })

pub nothing_found : (index max : ℕ) → None ≡ answer [] (Find index max)
nothing_found index max = elim (cases_Bool (nat_lt max index)) [
  | inl above ↦ rw above refl
  | inr low ↦ rw low refl
]

pub at_most : (n : ℕ) → n ≤ n
at_most n = omega arith

-- an empty map answers so, after all calls that the pass has seen
abbrev pub nothing_answers : (q q' : PassPart) → GoesOn q q' → (moment_seen q' (length q'.seen)).ranges ≡ [] → (query : Query) → None ≡ answer [] query → Answers q' (length q.seen) query None
nothing_answers q q' goes empty query none = record {
  k = length q'.seen;
  low = begins_long q.seen q'.seen goes.seen;
  high = at_most (length q'.seen);
  map = nothing_is_a_map q'.shape.kind (moment_seen q' (length q'.seen)).ranges empty;
  is = none ∙ ap (λ (m : List Range). answer m query) (sym empty);
}

-- what is known of no fewer calls is known of fewer
pub answers_from : (q : PassPart) (least less : ℕ) (query : Query) (value : Option Range) → less ≤ least → Answers q least query value → Answers q less query value
answers_from q least less query value le a = let low = a.low in record { k = a.k; low = omega arith; high = a.high; map = a.map; is = a.is }

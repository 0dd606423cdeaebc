-- What a section has when it leaves a leaf that is marked then.
use Rattle.mt_read.proofs.Prelude.{◌≡◌, ◌≢◌, ℕ, ◌+◌, ◌-◌, ◌<◌, ◌≤◌, List, Option, Some, None, sym, ap, ◌∙◌, subst, arith, IfNone, flat_map, slice_get, Kind, Query, Next, Prev, Rfind, answer, greatest_of, Span, slot_column, slots_of, leaf_range, Fills, kind_at, column, Extent, Held, copy_of, spans_at, slot_of_form, PassPart, here, spans_here, Row, SlotPlace, IsLeafBefore, IsBehind, IsLeafOver, LeftHole, LeftMarked, MarkedBeside, GoesOn, IsOnLeaf, IsPlaceIn, IsSameHold, IsUnder, SeesMore, WasMarked, WasRead}
use Rattle.mt_read.proofs.Descending.{goes_on, goes_sees, here_more, marked_then}
use Rattle.mt_read.proofs.Finding.{on_more}
use Rattle.mt_read.proofs.Reading.{kind_goes, no_entry, span_of}
use Rattle.mt_read.proofs.Silent.{first_of, first_two_of, none_next, none_prev, none_prev_hole, none_rfind}

-- ---- from a moment before

pub beside_then : (Beside : PassPart → Held → Type 0) (x : Held) (q q' q'' : PassPart) → GoesOn q q' → MarkedBeside Beside x q' q'' → MarkedBeside Beside x q q''
beside_then Beside x q q' q'' s m = record { marked = marked_then x q q' q'' s m.marked; under = m.under; beside = m.beside }

-- the section has come to a leaf, from x
pub come_beside : (Beside : PassPart → Held → Type 0) (x : Held) (q q' q'' : PassPart) → GoesOn q q' → IsUnder q' x → WasMarked x q' q'' → Beside q'' x → MarkedBeside Beside x q q''
come_beside Beside x q q' q'' s held w beside = record { marked = marked_then x q q' q'' s w; under = w.goes.under x held; beside = beside }

pub behind_leaf : (x : Held) (q : PassPart) (leaf : Row) → IsOnLeaf q leaf → x.extent.last < greatest_of q.shape.kind → leaf.min ≤ x.extent.last + 1 → x.extent.last + 1 ≤ leaf.max → IsBehind q x
behind_leaf x q leaf at more from to = (more, (at.level, (let min = at.on.min in omega arith), (let max = at.on.max in omega arith)))

pub before_leaf : (x : Held) (q : PassPart) (leaf : Row) → IsOnLeaf q leaf → x.extent.first ≢ 0 → leaf.min ≤ x.extent.first - 1 → x.extent.first - 1 ≤ leaf.max → IsLeafBefore q x
before_leaf x q leaf at some from to = (some, (at.level, (let min = at.on.min in omega arith), (let max = at.on.max in omega arith)))

pub left_then : {A : Type 0} (o : Option A) (query : Query) (less least : ℕ) (q q' q'' : PassPart) → less ≤ least → GoesOn q q' → IfNone o (LeftMarked query least q' q'') → IfNone o (LeftMarked query less q q'')
left_then None query less least q q' q'' le s l = let since = l.since in record { x = l.x; since = omega arith; over = l.over; none = l.none; beside = beside_then _ l.x q q' q'' s l.beside }
left_then (Some v) query less least q q' q'' le s l = tt

pub kind_beside : (Beside : PassPart → Held → Type 0) (x : Held) (q q' : PassPart) → MarkedBeside Beside x q q' → q'.shape.kind ≡ q.shape.kind
kind_beside Beside x q q' m = ap (λ (z : PassPart). z.shape.kind) m.marked.goes.is

pub kind_hole : (place : SlotPlace) (q q' : PassPart) → LeftHole place q q' → q'.shape.kind ≡ q.shape.kind
kind_hole place q q' h = kind_beside IsLeafBefore (here h.read) h.read q' h.beside ∙ kind_goes q h.read h.goes

pub leaf_more : (q q' : PassPart) (leaf : Row) → SeesMore q q' → IsOnLeaf q leaf → IsOnLeaf q' leaf
leaf_more q q' leaf s at = record { on = on_more q q' leaf s at.on; level = ap (λ (x : Held). x.extent.level) (here_more q q' s) ∙ at.level }

-- ---- a leaf that is held as it was come to

module _ (q q₁ q₂ : PassPart) (leaf : Row) (place : SlotPlace) (index : ℕ) (sees : SeesMore q q₁) (at : IsOnLeaf q leaf) (low : leaf.min ≤ index) (high : index ≤ leaf.max) (is : IsPlaceIn q₁ place) where
  stands : slice_get (spans_here q (here q)) place.slot ≡ Some (span_of place is.word)
  stands = sym (λ i. slice_get (spans_here (sees.is i) (here (sees.is i))) place.slot) ∙ is.stands

  over : IsLeafOver (here q) index
  over = (at.level, (let min = at.on.min in omega arith), (let max = at.on.max in omega arith))

  module _ (Beside : PassPart → Held → Type 0) (m : MarkedBeside Beside (here q₁) q₁ q₂) where
    beside : MarkedBeside Beside (here q) q q₂
    beside = beside_then Beside (here q) q q₁ q₂ (goes_sees q q₁ sees) (subst (λ (z : Held). MarkedBeside Beside z q₁ q₂) (here_more q q₁ sees) m)

    kind_then : q₂.shape.kind ≡ q.shape.kind
    kind_then = kind_beside Beside (here q) q q₂ beside

    silent : (query : Query) → answer (flat_map leaf_range (spans_here q (here q))) query ≡ None → answer (flat_map leaf_range (spans_here q₂ (here q))) query ≡ None
    silent query none = (λ i. answer (flat_map leaf_range (spans_at (kind_then i) (copy_of (here q)) (here q).row (here q).extent)) query) ∙ none

  pub left_next : {A : Type 0} (o : Option A) → place.first ≤ index → place.last ≡ leaf.max → IfNone o (MarkedBeside IsBehind (here q₁) q₁ q₂) → IfNone o (LeftMarked (Next index (greatest_of q.shape.kind)) (here q).since q q₂)
  left_next None from end m = record {
    x = here q;
    since = omega arith;
    over = over;
    none = silent IsBehind m (Next index (greatest_of q.shape.kind)) (let max = at.on.max in none_next (here q).extent.first ((here q).extent.last + 1) place.slot (spans_here q (here q)) (span_of place is.word) index (greatest_of q.shape.kind) at.on.shape.fills stands (omega arith) from);
    beside = beside IsBehind m;
  }
  left_next (Some v) from end m = tt

  -- the place of the index is the first
  pub left_prev : {A : Type 0} (o : Option A) → index ≤ place.last → place.slot ≡ 0 → IfNone o (MarkedBeside IsLeafBefore (here q₁) q₁ q₂) → IfNone o (LeftMarked (Prev index 0) (here q).since q q₂)
  left_prev None to zero m =
      let spans = spans_here q (here q) in
      let first = first_of spans (span_of place is.word) (ap (slice_get spans) (sym zero) ∙ stands) in record {
        x = here q;
        since = omega arith;
        over = over;
        none = silent IsLeafBefore m (Prev index 0) (ap (λ (l : List Span). answer (flat_map leaf_range l) (Prev index 0)) first.1
            ∙ none_prev (here q).extent.first ((here q).extent.last + 1) (span_of place is.word) first.0 index (subst (Fills (here q).extent.first ((here q).extent.last + 1)) first.1 at.on.shape.fills) to);
        beside = beside IsLeafBefore m;
      }
  left_prev (Some v) to zero m = tt

-- ---- a leaf whose first place was read as a hole

pub left_hole : {A : Type 0} (o : Option A) (q q₁ q₂ : PassPart) (place : SlotPlace) → GoesOn q q₁ → IsSameHold (here q) (here q₁) → (place.slot ≡ 0) × WasRead q q₁ place None → IfNone o (MarkedBeside IsLeafBefore (here q₁) q₁ q₂) → IfNone o (LeftHole place q q₂)
left_hole None q q₁ q₂ place goes same none m = record { read = q₁; first = none.0; goes = goes; same = same; hole = none.1; beside = m }
left_hole (Some v) q q₁ q₂ place goes same none m = tt

module _ (q q' : PassPart) (hole : SlotPlace) (h : LeftHole hole q q') where
  abbrev x : Held
  x = here h.read

  abbrev low : ℕ
  low = (here q).extent.first

  abbrev end : ℕ
  end = (here q).extent.last + 1

  abbrev spans : List Span
  spans = spans_at h.read.shape.kind (copy_of x) (here q).row (here q).extent

  abbrev empty : Span
  empty = span_of hole h.hole.entry

  first : slice_get spans 0 ≡ Some empty
  first = ap (slice_get spans) (sym h.first) ∙ h.hole.stands

  is_hole : h.hole.entry ≡ 0
  is_hole = no_entry hole h.hole.entry h.hole.found_is

  fills : Fills low end spans
  fills = h.hole.read.shape.fills

  kind : q'.shape.kind ≡ h.read.shape.kind
  kind = kind_beside IsLeafBefore x h.read q' h.beside

  row : x.row ≡ (here q).row
  row = ap (λ (z : Held). z.row) h.same.is

  extent : x.extent ≡ (here q).extent
  extent = ap (λ (z : Held). z.extent) h.same.is

  same_since : x.since ≡ (here q).since
  same_since = ap (λ (z : Held). z.since) h.same.is

  spans_are : spans_here q' x ≡ spans
  spans_are = λ i. spans_at (kind i) (copy_of x) (row i) (extent i)

  left : (query : Query) (least index : ℕ) (leaf : Row) → IsOnLeaf q leaf → least ≤ (here q).since → leaf.min ≤ index → index ≤ leaf.max → answer (flat_map leaf_range spans) query ≡ None
      → IsLeafOver x index × (least ≤ x.since) × (answer (flat_map leaf_range (spans_here q' x)) query ≡ None)
  left query least index leaf at le from to none =
      let min = at.on.min in let max = at.on.max in (
        subst (λ (e : Extent). (e.level ≡ 0) × (e.first ≤ index) × (index ≤ e.last)) (sym extent) (at.level, omega arith, omega arith),
        (let s = same_since in omega arith),
        ap (λ (l : List Span). answer (flat_map leaf_range l) query) spans_are ∙ none,
      )

  pub hole_rfind : (least index : ℕ) (leaf : Row) → IsOnLeaf q leaf → least ≤ (here q).since → leaf.min ≤ index → index ≤ leaf.max → index ≤ hole.last → LeftMarked (Rfind index 0) least q q'
  hole_rfind least index leaf at le from to inside =
      let list = first_of spans empty first in
      let none = ap (λ (l : List Span). answer (flat_map leaf_range l) (Rfind index 0)) list.1 ∙ none_rfind low end empty list.0 index (subst (Fills low end) list.1 fills) is_hole inside in
      let l = left (Rfind index 0) least index leaf at le from to none in
      record { x = x; since = l.1; over = l.0; none = l.2; beside = beside_then IsLeafBefore x q h.read q' h.goes h.beside }

  -- the place of the index is behind the hole
  pub hole_prev : (place : SlotPlace) (least index : ℕ) (leaf : Row) → IsOnLeaf q leaf → IsPlaceIn q place → hole.slot + 1 ≡ place.slot → least ≤ (here q).since → leaf.min ≤ index → index ≤ leaf.max → index ≤ place.last → LeftMarked (Prev index 0) least q q'
  hole_prev place least index leaf at is slot le from to inside =
      let zero = h.first in
      let one : place.slot ≡ 1 = omega arith in
      let there = subst (λ (k : Kind). slice_get (spans_at k (copy_of (here q)) (here q).row (here q).extent) place.slot ≡ Some (span_of place is.word)) (sym (kind_goes q h.read h.goes)) is.stands in
      let word = column (copy_of x) (here q).row (slot_column (slots_of x.width (kind_at h.read.shape.kind (here q).extent.level)) place.slot) in
      let second : slice_get spans 1 ≡ Some (span_of place word) = ap (slice_get spans) (sym one) ∙ slot_of_form h.read.shape.kind (copy_of (here q)) (copy_of x) (here q).row place.slot (here q).extent _ h.hole.read.width h.hole.read.form there in
      let list = first_two_of spans empty (span_of place word) first second in
      let none = ap (λ (l : List Span). answer (flat_map leaf_range l) (Prev index 0)) list.1 ∙ none_prev_hole low end empty (span_of place word) list.0 index (subst (Fills low end) list.1 fills) is_hole inside in
      let l = left (Prev index 0) least index leaf at le from to none in
      record { x = x; since = l.1; over = l.0; none = l.2; beside = beside_then IsLeafBefore x q h.read q' h.goes h.beside }

-- from the moments before
pub rfind_left : {A : Type 0} (o : Option A) (q q₁ q₂ q₃ : PassPart) (hole : SlotPlace) (least index : ℕ) (leaf : Row) → GoesOn q q₁ → SeesMore q₁ q₂ → IsOnLeaf q₁ leaf → least ≤ (here q₁).since → leaf.min ≤ index → index ≤ leaf.max → index ≤ hole.last
    → IfNone o (LeftHole hole q₂ q₃) → IfNone o (LeftMarked (Rfind index 0) least q q₃)
rfind_left None q q₁ q₂ q₃ hole least index leaf goes sees at since from to inside h =
    left_then {A = ℕ} None (Rfind index 0) least least q q₂ q₃ (omega arith) (goes_on q q₁ q₂ goes (goes_sees q₁ q₂ sees))
    (hole_rfind q₂ q₃ hole h least index leaf (leaf_more q₁ q₂ leaf sees at) (subst (λ (x : Held). least ≤ x.since) (sym (here_more q₁ q₂ sees)) since) from to inside)
rfind_left (Some v) q q₁ q₂ q₃ hole least index leaf goes sees at since from to inside h = tt

pub prev_left : {A : Type 0} (o : Option A) (q q₂ q₃ : PassPart) (hole place : SlotPlace) (index : ℕ) (leaf : Row) → SeesMore q q₂ → IsOnLeaf q₂ leaf → IsPlaceIn q₂ place → hole.slot + 1 ≡ place.slot → leaf.min ≤ index → index ≤ leaf.max → index ≤ place.last
    → IfNone o (LeftHole hole q₂ q₃) → IfNone o (LeftMarked (Prev index 0) (here q).since q q₃)
prev_left None q q₂ q₃ hole place index leaf sees at is slot from to inside h =
    let since = ap (λ (x : Held). x.since) (here_more q q₂ sees) in
    left_then {A = ℕ} None (Prev index 0) (here q).since (here q).since q q₂ q₃ (omega arith) (goes_sees q q₂ sees) (hole_prev q₂ q₃ hole h place (here q).since index leaf at is slot (omega arith) from to inside)
prev_left (Some v) q q₂ q₃ hole place index leaf sees at is slot from to inside h = tt

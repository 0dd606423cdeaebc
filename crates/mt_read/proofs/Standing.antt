-- What a leaf that stood at a moment tells of the map there, by the slots that it had when a section came to it.
use Rattle.mt_read.proofs.Prelude.{◌≡◌, ℕ, suc, ◌+◌, ◌*◌, ◌<◌, ◌≤◌, ◌==◌, Bool, true, List, [], ◌∷◌, Some, None, refl, sym, ◌∙◌, subst, if◌then◌else◌, AllByRecursion, slice_get, eq-eqb, Kind, Width, IsMap, greatest_of, RowKind, Span, slot_column, slots_of, leaf_range, Fills, Held, Snapshot, copy_of, SameForm, spans_at, IsPart, slot_of_form, hole_of_form, kind_at, Table, column}
use Rattle.mt_life.specs.declared.views.Moment as life
use Rattle.mt_read.proofs.MapAnswers.{Beside, beside}
use Rattle.mt_read.proofs.SlotAnswers.{narrow}

form_back : (kind : RowKind) (row : ℕ) (t t' : Table) → t'.width ≡ t.width → SameForm t t' kind row → SameForm t' t kind row
form_back kind row t t' width form c above low =
    let there = form c above (subst (λ (w : Width). c < 2 * slots_of w kind) width low) in
    ((λ inner. sym (there.0 (subst (λ (w : Width). c < slots_of w kind) width inner))), sym there.1)

-- rows of one form, one after another, in tables of one width
pub form_on : (kind : RowKind) (row : ℕ) (t t' t'' : Table) → t'.width ≡ t.width → SameForm t t' kind row → SameForm t' t'' kind row → SameForm t t'' kind row
form_on kind row t t' t'' width form more c above low =
    let first = form c above low in
    let again = more c above (subst (λ (w : Width). c < 2 * slots_of w kind) (sym width) low) in
    ((λ inner. again.0 (subst (λ (w : Width). c < slots_of w kind) (sym width) inner) ∙ first.0 inner), again.1 ∙ first.1)

-- ---- spans with the same ends

fills_alike : (lo hi : ℕ) (xs ys : List Span) → ((i : ℕ) (x : Span) → slice_get xs i ≡ Some x → (w : ℕ) × (slice_get ys i ≡ Some (record { first = x.first; last = x.last; word = w })))
    → ((i : ℕ) (y : Span) → slice_get ys i ≡ Some y → (x : Span) × (slice_get xs i ≡ Some x)) → Fills lo hi xs → Fills lo hi ys
fills_alike lo hi [] [] there back fills = fills
fills_alike lo hi [] (y ∷ ys) there back fills = let at = (back 0 y refl).1 in let clash : None ≡ Some (back 0 y refl).0 = at in absurd cc
fills_alike lo hi (x ∷ xs) [] there back fills = let at = there 0 x refl in let clash : None ≡ Some (record { first = x.first; last = x.last; word = at.0 }) = at.1 in absurd cc
fills_alike lo hi (x ∷ xs) (y ∷ ys) there back fills =
    let at = there 0 x refl in
    let same : Some y ≡ Some (record { first = x.first; last = x.last; word = at.0 }) = at.1 in
    let one : y ≡ record { first = x.first; last = x.last; word = at.0 } = cc in
    subst (λ (z : Span). (z.first ≡ lo) × (lo ≤ z.last) × Fills (z.last + 1) hi ys) (sym one)
    (fills.0, fills.1, fills_alike (x.last + 1) hi xs ys (λ i. there (suc i)) (λ i. back (suc i)) fills.2)

-- ---- a slot at a moment

module _ (kind : Kind) (x : Held) (m : life.Moment) (stood : Snapshot kind x m) (fills : Fills x.extent.first (x.extent.last + 1) (spans_at kind (copy_of x) x.row x.extent)) where
  abbrev row_kind : RowKind
  row_kind = kind_at kind x.extent.level

  abbrev t : Table
  t = stood.table

  abbrev there : List Span
  there = spans_at kind t x.row x.extent

  slot_there : (i : ℕ) (y : Span) → slice_get (spans_at kind (copy_of x) x.row x.extent) i ≡ Some y → (w : ℕ) × (slice_get there i ≡ Some (record { first = y.first; last = y.last; word = w }))
  slot_there i y at = (column t x.row (slot_column (slots_of t.width row_kind) i), slot_of_form kind (copy_of x) t x.row i x.extent y stood.width stood.form at)

  slot_back : (i : ℕ) (y : Span) → slice_get there i ≡ Some y → (z : Span) × (slice_get (spans_at kind (copy_of x) x.row x.extent) i ≡ Some z)
  slot_back i y at = (_, slot_of_form kind t (copy_of x) x.row i x.extent y (sym stood.width) (form_back row_kind x.row (copy_of x) t stood.width stood.form) at)

  pub fills_there : Fills x.extent.first (x.extent.last + 1) there
  fills_there = fills_alike x.extent.first (x.extent.last + 1) (spans_at kind (copy_of x) x.row x.extent) there slot_there slot_back fills

  -- the map has over the slot just what stood there
  pub part_there : (i : ℕ) (y : Span) → slice_get (spans_at kind (copy_of x) x.row x.extent) i ≡ Some y → (w : ℕ) × IsPart m.ranges y.first y.last (leaf_range (record { first = y.first; last = y.last; word = w }))
  part_there i y at =
      let s = slot_there i y at in
      (s.0, narrow m.ranges x.extent.first x.extent.last i there (record { first = y.first; last = y.last; word = s.0 }) stood.part.ranges fills_there s.1)

  pub beside_there : (i : ℕ) (y : Span) → IsMap kind m.ranges → slice_get (spans_at kind (copy_of x) x.row x.extent) i ≡ Some y → AllByRecursion (Beside (greatest_of kind) y.first y.last) m.ranges
  beside_there i y map at = let p = part_there i y at in beside kind m.ranges map (record { first = y.first; last = y.last; word = p.0 }) p.1

  -- of a hole it has nothing there
  pub hole_there : (i : ℕ) (y : Span) → slice_get (spans_at kind (copy_of x) x.row x.extent) i ≡ Some y → y.word ≡ 0 → IsPart m.ranges y.first y.last []
  hole_there i y at hole =
      let s = slot_there i y at in
      let none : (s.0 == 0) ≡ true = hole_of_form kind (copy_of x) t x.row i x.extent y _ stood.width stood.form at s.1 ∙ eq-eqb y.word 0 hole in
      subst (λ (b : Bool). IsPart m.ranges y.first y.last (if b then [] else record { first = y.first; last = y.last; entry = s.0 } ∷ [])) none
      (narrow m.ranges x.extent.first x.extent.last i there (record { first = y.first; last = y.last; word = s.0 }) stood.part.ranges fills_there s.1)

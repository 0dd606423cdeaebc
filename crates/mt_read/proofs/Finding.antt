-- How a slot is found in the row that a section is at.
use Rattle.mt_read.proofs.Prelude.{length, ◌≡◌, ℕ, ◌+◌, ◌-◌, ◌<◌, ◌≤◌, List, Some, refl, sym, ap, ◌∙◌, subst, arith, ◌*◌, slice_index, slice_get, Width, kind_width, columns, Begins, begins_long, begins_none, begins_on, Span, pivot_column, items_from, slots_of, gaps_of, Fills, spans_from, Held, copy_of, slot_for, span_at, at_slot, at_get, Passed, Ends, passed_more, ends_at_pivot, ends_at_last, IsSought, row_at, here_used, base_of, column, Pass, PassPart, column_at, LoadedPivot, here, kind_of, slots_in, spans_here, touched, with_seen, Identity, IsPassOf, part_of, Row, SlotPlace, Spot, IsAtSpot, row_here, IsOnRow, IsPlaceIn, SeesMore}

-- ---- the pass has only seen more

pub sees_on : (q q' q'' : PassPart) → SeesMore q q' → SeesMore q' q'' → SeesMore q q''
sees_on q q' q'' s t = record { is = t.is ∙ ap (λ (z : PassPart). record (with_seen z q''.seen) { steps = q''.steps }) s.is; seen = begins_on q.seen q'.seen q''.seen s.seen t.seen }

pub sees_none : (q : PassPart) → SeesMore q q
sees_none q = record { is = refl; seen = begins_none q.seen }

pub sees_two : (q q₀ q₁ q₂ : PassPart) → SeesMore q q₀ → SeesMore q₀ q₁ → SeesMore q₁ q₂ → SeesMore q q₂
sees_two q q₀ q₁ q₂ s₀ s₁ s₂ = sees_on q q₁ q₂ (sees_on q q₀ q₁ s₀ s₁) s₂

pub sees_three : (q q₀ q₁ q₂ q₃ : PassPart) → SeesMore q q₀ → SeesMore q₀ q₁ → SeesMore q₁ q₂ → SeesMore q₂ q₃ → SeesMore q q₃
sees_three q q₀ q₁ q₂ q₃ s₀ s₁ s₂ s₃ = sees_on q q₂ q₃ (sees_two q q₀ q₁ q₂ s₀ s₁ s₂) s₃

pub on_more : (q q' : PassPart) (row : Row) → SeesMore q q' → IsOnRow q row → IsOnRow q' row
on_more q q' row s on =
    let long = begins_long q.seen q'.seen s.seen in let met = on.met in
    subst (λ (z : PassPart). IsOnRow z row) (sym s.is) (record {
      at = on.at;
      number = on.number;
      base = on.base;
      kind = on.kind;
      wide = on.wide;
      min = on.min;
      max = on.max;
      within = on.within;
      has = on.has;
      old = on.old;
      met = omega arith;
      width = on.width;
      shape = on.shape;
    })

pub place_more : (q q' : PassPart) (place : SlotPlace) → SeesMore q q' → IsPlaceIn q place → IsPlaceIn q' place
place_more q q' place s is = subst (λ (z : PassPart). IsPlaceIn z place) (sym s.is) (record { word = is.word; stands = is.stands })

-- ---- a row of which no ends are kept

pub spot_more : (q q' : PassPart) (spot : Spot) → SeesMore q q' → IsAtSpot q spot → IsAtSpot q' spot
spot_more q q' spot s at =
    let same : here q' ≡ here q = ap here s.is in
    subst (λ (x : Held). IsOnRow q' (record { at = spot.at; kind = spot.kind; width = spot.width; min = x.extent.first; max = x.extent.last })) (sym same) (on_more q q' (row_here q spot) s at)

-- a row whose ends are kept is at its spot
pub on_spot : (q : PassPart) (row : Row) → IsOnRow q row → IsAtSpot q (record { at = row.at; kind = row.kind; width = row.width })
on_spot q row on = subst (IsOnRow q) (λ i. record { at = row.at; kind = row.kind; width = row.width; min = on.min i; max = on.max i }) on

-- a word of no interest was loaded
pub touched_sees : (q q' : PassPart) → q' ≡ touched q → SeesMore q q'
touched_sees q q' is =
    let seen : q'.seen ≡ q.seen = ap (λ (z : PassPart). z.seen) is in
    let steps : q'.steps ≡ q.steps + 1 = ap (λ (z : PassPart). z.steps) is in
    record {
      is = is ∙ (λ i. record q { seen = sym seen i; steps = sym steps i });
      seen = subst (Begins q.seen) (sym seen) (begins_none q.seen);
    }

-- ---- the row's columns

pub shape_is : (t : Identity) (p : Pass) → IsPassOf t p → (part_of p).shape ≡ t.shape
shape_is t p of = ap (λ (i : Identity). i.shape) of.of

module _ (q : PassPart) (row : Row) (on : IsOnRow q row) where
  abbrev x : Held
  x = here q

  -- so many slots as the row's words have
  pub slots_are : slots_in q x ≡ slots_of x.width (kind_of q x)
  slots_are = ap (λ (w : Width). slots_of w (kind_of q x)) (sym on.width)

  -- so many as the code counts
  pub slots_counted : (n : ℕ) → n ≡ slots_of row.width row.kind → n ≡ slots_in q x
  slots_counted n count = count ∙ (λ i. slots_of (on.wide i) (on.kind i))

  pub column_is : (col : ℕ) → column_at (kind_width q.shape.kind) row.at.number col ≡ base_of (copy_of x) x.row + col
  column_is col = (λ i. columns (sym on.width i) * on.number i + col)

-- The slots below this one do not hold the index, and it begins at `first`.
abbrev pub PassedBy : PassPart → ℕ → ℕ → ℕ → Type 0
PassedBy q index slot first = let x = here q in Passed (slots_of x.width (kind_of q x)) (gaps_of x.width (kind_of q x)) x.copy (base_of (copy_of x) x.row) x.extent.last x.extent.first index slot first

module _ (q : PassPart) (index : ℕ) where
  abbrev y : Held
  y = here q

  abbrev slots : ℕ
  slots = slots_of y.width (kind_of q y)

  abbrev gaps : ℕ
  gaps = gaps_of y.width (kind_of q y)

  abbrev base : ℕ
  base = base_of (copy_of y) y.row

  pub none_passed : PassedBy q index 0 y.extent.first
  none_passed =
      let all : slots ≡ slots - 0 = omega arith in
      let spans : ℕ → List Span = λ n. spans_from y.extent.first (items_from slots gaps y.copy base y.extent.last n 0) in
      let same : spans slots ≡ spans (slots - 0) = ap spans all in
      record {
        slot = (let slot : slot_for (spans slots) index ≡ slot_for (spans (slots - 0)) index = ap (λ (l : List Span). slot_for l index) same in slot ∙ none_more (slot_for (spans (slots - 0)) index));
        span = λ k. (λ i. span_at (same i) (sym (none_more k) i));
      }
    where
      none_more : (n : ℕ) → n ≡ 0 + n
      none_more n = omega arith

  pub one_passed : (slot first pivot : ℕ) → slot + 1 < slots → pivot ≡ slice_index y.copy (base + pivot_column slot) → pivot < index → index ≤ y.extent.last → PassedBy q index slot first → PassedBy q index (slot + 1) (pivot + 1)
  one_passed slot first pivot inner is past to passed =
      subst (λ (n : ℕ). PassedBy q index (slot + 1) (n + 1)) (sym is) (passed_more slots gaps y.copy base y.extent.last y.extent.first index slot first inner (subst (λ (n : ℕ). n < index) is past) to passed)

  place_of : (slot first last : ℕ) → Fills y.extent.first (y.extent.last + 1) (spans_here q y) → y.extent.first ≤ index → index ≤ y.extent.last
      → Ends slots gaps y.copy base y.extent.last y.extent.first index slot first last → IsPlaceIn q (record { slot = slot; first = first; last = last })
  place_of slot first last fills from to ends =
      let all = spans_here q y in
      let at = at_get y.extent.first (y.extent.last + 1) all index (span_at all (slot_for all index)) (at_slot y.extent.first (y.extent.last + 1) all index fills from (omega arith)) in
      let here : slice_get all slot ≡ Some (span_at all slot) = subst (λ (n : ℕ). slice_get all n ≡ Some (span_at all n)) (sym ends.slot) at in
      record {
        word = (span_at all slot).word;
        stands = here ∙ (λ i. Some (record { first = sym ends.from i; last = sym ends.to i; word = (span_at all slot).word }));
      }

  pub found_at_pivot : (slot first pivot : ℕ) → Fills y.extent.first (y.extent.last + 1) (spans_here q y) → slot + 1 < slots → pivot ≡ slice_index y.copy (base + pivot_column slot) → y.extent.first ≤ index → index ≤ pivot → index ≤ y.extent.last → PassedBy q index slot first
      → IsPlaceIn q (record { slot = slot; first = first; last = pivot })
  found_at_pivot slot first pivot fills inner is from within to passed =
      place_of slot first pivot fills from to (subst (λ (n : ℕ). Ends slots gaps y.copy base y.extent.last y.extent.first index slot first n) (sym is)
      (ends_at_pivot slots gaps y.copy base y.extent.last y.extent.first index slot first inner (subst (λ (n : ℕ). index ≤ n) is within) passed))

  pub found_at_last : (slot first : ℕ) → Fills y.extent.first (y.extent.last + 1) (spans_here q y) → slot + 1 ≡ slots → y.extent.first ≤ index → index ≤ y.extent.last → PassedBy q index slot first
      → IsPlaceIn q (record { slot = slot; first = first; last = y.extent.last })
  found_at_last slot first fills last from to passed = place_of slot first y.extent.last fills from to (ends_at_last slots gaps y.copy base y.extent.last y.extent.first index slot first last to passed)

-- ---- as the code finds it

module _ (q : PassPart) (row : Row) (on : IsOnRow q row) where
  pub pivot_is : (q₁ q₂ : PassPart) (slot found : ℕ) → SeesMore q q₁ → LoadedPivot (column_at (kind_width q₁.shape.kind) row.at.number (1 + slot)) found q₁ q₂
      → found ≡ slice_index (here q).copy (base_of (copy_of (here q)) (here q).row + pivot_column slot)
  pivot_is q₁ q₂ slot found s told =
      told.found_is ∙ ((λ i. slice_index (here (s.is i)).copy (column_at (kind_width (s.is i).shape.kind) row.at.number (1 + slot))) ∙ ap (slice_index (here q).copy) (column_is q row on (1 + slot)))

  -- the code's number of slots
  pub count_is : (n : ℕ) → n ≡ slots_of row.width row.kind → n ≡ slots_of (here q).width (kind_of q (here q))
  count_is n count = slots_counted q row on n count ∙ slots_are q row on

-- ---- by groups of slots

module _ (q : PassPart) (row : Row) (on : IsOnRow q row) where
  abbrev z : Held
  z = here q

  -- the row, as walks of one thread have it, may be searched
  pub is_sought : IsSought (copy_of z) (row_at z.row (kind_of q z) z.extent.first z.extent.last)
  is_sought = record { fills = on.shape.fills; unused = on.shape.unused }

  pub column_kept : (q' : PassPart) (col word : ℕ) → SeesMore q q' → word ≡ column (copy_of (here q')) (here q').row col → word ≡ column (copy_of z) z.row col
  column_kept q' col word s is = is ∙ ap (λ (p : PassPart). column (copy_of (here p)) (here p).row col) s.is

  -- two columns, or three, that are loaded one after another
  pub two_columns : (q₀ q₁ q₂ : PassPart) (a b u v : ℕ) → SeesMore q q₀ → u ≡ column (copy_of (here q₀)) (here q₀).row a → SeesMore q₀ q₁ → v ≡ column (copy_of (here q₁)) (here q₁).row b → SeesMore q₁ q₂
      → (u ≡ column (copy_of z) z.row a) × (v ≡ column (copy_of z) z.row b) × SeesMore q q₂
  two_columns q₀ q₁ q₂ a b u v s₀ is_u s₁ is_v s₂ =
      let first = sees_on q q₀ q₁ s₀ s₁ in
      (column_kept q₀ a u s₀ is_u, column_kept q₁ b v first is_v, sees_on q q₁ q₂ first s₂)

  pub three_columns : (q₀ q₁ q₂ q₃ : PassPart) (a b d u v w : ℕ) → SeesMore q q₀ → u ≡ column (copy_of (here q₀)) (here q₀).row a → SeesMore q₀ q₁ → v ≡ column (copy_of (here q₁)) (here q₁).row b → SeesMore q₁ q₂ → w ≡ column (copy_of (here q₂)) (here q₂).row d → SeesMore q₂ q₃
      → (u ≡ column (copy_of z) z.row a) × (v ≡ column (copy_of z) z.row b) × (w ≡ column (copy_of z) z.row d) × SeesMore q q₃
  three_columns q₀ q₁ q₂ q₃ a b d u v w s₀ is_u s₁ is_v s₂ is_w s₃ =
      let front = two_columns q₀ q₁ q₂ a b u v s₀ is_u s₁ is_v s₂ in
      (front.0, front.1, column_kept q₂ d w front.2 is_w, sees_on q q₂ q₃ front.2 s₃)

  -- what stands in a slot of the row, by its ends
  pub place_in : (index slot first last : ℕ) → z.extent.first ≤ index → index ≤ z.extent.last → slot ≡ slot_for (spans_here q z) index
      → first ≡ (span_at (spans_here q z) slot).first → last ≡ (span_at (spans_here q z) slot).last → IsPlaceIn q (record { slot = slot; first = first; last = last }) × (first ≤ index) × (index ≤ last)
  place_in index slot first last from to same begins ends =
      let all = spans_here q z in
      let at = at_slot z.extent.first (z.extent.last + 1) all index on.shape.fills from (omega arith) in
      let got = at_get z.extent.first (z.extent.last + 1) all index (span_at all (slot_for all index)) at in
      let got' : slice_get all slot ≡ Some (span_at all slot) = subst (λ (n : ℕ). slice_get all n ≡ Some (span_at all n)) (sym same) got in
      let first_is : first ≡ (span_at all (slot_for all index)).first = begins ∙ ap (λ (n : ℕ). (span_at all n).first) same in
      let last_is : last ≡ (span_at all (slot_for all index)).last = ends ∙ ap (λ (n : ℕ). (span_at all n).last) same in
      let low = at.from in let high = at.to in (
        record { word = (span_at all slot).word; stands = got' ∙ (λ i. Some (record { first = sym begins i; last = sym ends i; word = (span_at all slot).word })) },
        omega arith,
        omega arith,
      )

  pub slot_used : (index slot : ℕ) → index ≤ z.extent.last → slot ≡ slot_for (spans_here q z) index → slot < length (spans_here q z)
  slot_used index slot to same = let used = here_used (copy_of z) (row_at z.row (kind_of q z) z.extent.first z.extent.last) is_sought index to in omega arith

  pub span_kept : (q' : PassPart) (slot : ℕ) → SeesMore q q' → span_at (spans_here q' (here q')) slot ≡ span_at (spans_here q z) slot
  span_kept q' slot s = ap (λ (p : PassPart). span_at (spans_here p (here p)) slot) s.is

  pub used_kept : (q' : PassPart) (slot : ℕ) → SeesMore q q' → slot < length (spans_here q z) → slot < length (spans_here q' (here q'))
  used_kept q' slot s used = subst (λ (p : PassPart). slot < length (spans_here p (here p))) (sym s.is) used

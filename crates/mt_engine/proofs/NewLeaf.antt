-- A leaf replaced by one store in the slot that it stood in: all rows above it, and their slots, are on the way as before.
use Rattle.mt_engine.proofs.Prelude.{◌≡◌, ◌≢◌, ℕ, zero, suc, ◌+◌, ◌-◌, ◌*◌, ◌<◌, ◌≤◌, List, [], ◌∷◌, Some, true, length, nat_le, refl, sym, ap, ◌∙◌, subst, inl, inr, arith, slice_index, cases_Bool, cases_lt, Width, columns, greatest, Gapped, Span, row_in, named_kind, named_row, pivot_column, items_from, slots_of, gaps_of, spans_from, slot_within, Slot, Table, base_of, column, spans_by, spans_in, Tree, Stands, top_of, Rooted, word_at, tree_on, IsReached, root_of, row_most, PathStep, slot_for, span_at, step_in, below, path_in, slot_here, slot_behind, row_next, top_row, rows_at, row_of, step_of, levels, step, place, lawful, slot_used, row_on_top, IsAlong}
use Rattle.mt_rows.proofs.Reached as reached
use Rattle.mt_engine.proofs.SameHeight.{word_in}

-- ---- spans that end at the same indexes

abbrev pub SameEnds : List Span → List Span → Type 0
SameEnds [] [] = Unit {0}
SameEnds [] (y ∷ ys) = ⊥
SameEnds (x ∷ xs) [] = ⊥
SameEnds (x ∷ xs) (y ∷ ys) = (x.first ≡ y.first) × (x.last ≡ y.last) × SameEnds xs ys

same_ends : (xs : List Span) → SameEnds xs xs
same_ends [] = tt
same_ends (x ∷ xs) = (refl, refl, same_ends xs)

ends_many : (xs ys : List Span) → SameEnds xs ys → length xs ≡ length ys
ends_many [] [] same = refl
ends_many [] (y ∷ ys) same = absurd same
ends_many (x ∷ xs) [] same = absurd same
ends_many (x ∷ xs) (y ∷ ys) same = ap suc (ends_many xs ys same.2)

ends_slot : (xs ys : List Span) (index : ℕ) → SameEnds xs ys → slot_for xs index ≡ slot_for ys index
ends_slot [] [] index same = refl
ends_slot [] (y ∷ ys) index same = absurd same
ends_slot (x ∷ xs) [] index same = absurd same
ends_slot (x ∷ xs) (y ∷ ys) index same =
    let last = same.1 in
    elim (cases_lt y.last index) [
      | inl more ↦ slot_behind x xs index (let more' = last in omega arith) ∙ (ap suc (ends_slot xs ys index same.2) ∙ sym (slot_behind y ys index more))
      | inr not ↦ slot_here x xs index (let not' = last in omega arith) ∙ sym (slot_here y ys index not)
    ]

ends_at : (xs ys : List Span) (k : ℕ) → SameEnds xs ys → ((span_at xs k).first ≡ (span_at ys k).first) × ((span_at xs k).last ≡ (span_at ys k).last)
ends_at [] [] k same = (refl, refl)
ends_at [] (y ∷ ys) k same = absurd same
ends_at (x ∷ xs) [] k same = absurd same
ends_at (x ∷ xs) (y ∷ ys) zero same = (same.0, same.1)
ends_at (x ∷ xs) (y ∷ ys) (suc k) same = ends_at xs ys k same.2

-- the pivots alone tell where spans end
module _ (slots gaps : ℕ) (w w' : List ℕ) (base max : ℕ) where
  ends_by : (left i first : ℕ) → ((k : ℕ) → k + 1 < i + left → slice_index w' (base + pivot_column k) ≡ slice_index w (base + pivot_column k))
      → SameEnds (spans_from first (items_from slots gaps w' base max left i)) (spans_from first (items_from slots gaps w base max left i))
  ends_by zero i first pivots = tt
  ends_by (suc zero) i first pivots = (refl, refl, tt)
  ends_by (suc (suc left)) i first pivots =
      let here = pivots i (omega arith) in
      elim (cases_Bool (nat_le max (slice_index w (base + pivot_column i)))) [
        | inl last ↦ rw (here, last) (refl, refl, tt)
        | inr more ↦ rw (here, more) (refl, refl, ends_by (suc left) (i + 1) (slice_index w (base + pivot_column i) + 1) (λ k low. pivots k (omega arith)))
      ]

-- ---- one word published in a slot of the row above a leaf

module _ (t t' : Rooted) (d row col index : ℕ) (stands : Stands (tree_on true t) (suc d)) (stands' : Stands (tree_on true t') (suc d)) (width : t'.table.width ≡ t.table.width) (root : t'.root ≡ t.root) (within : index ≤ greatest t.table.width)
    (kept : (r c : ℕ) → IsReached t r → 0 < c → c < columns t.table.width → Slot row col ≢ Slot r c → word_at t' r c ≡ word_at t r c)
    (row_is : row ≡ (step_of (tree_on true t) d index).row) (col_is : col ≡ slots_of t.table.width Gapped + (step_of (tree_on true t) d index).slot) where
  abbrev was : Tree
  was = tree_on true t

  abbrev now : Tree
  now = tree_on true t'

  abbrev slots : ℕ
  slots = slots_of t.table.width Gapped

  abbrev x_at : ℕ → Span
  x_at e = row_of was e index

  within' : index ≤ top_of now
  within' = subst (λ (w : Width). index ≤ greatest w) (sym width) within

  on : (e k : ℕ) → suc d ≡ e + k → reached.OnLevel t.table (suc d) (root_of was) k (x_at e)
  on e k high = record { depth = e; height = high; one = (let at = place was (suc d) stands index e within (omega arith) in reached.one_of_parts (rows_at was e) at.front at.back (x_at e) at.parts) }

  reaches : (e k : ℕ) → suc d ≡ e + k → IsReached t (row_in (x_at e).word)
  reaches e k high = reached.times_reached was (suc d) stands (row_in (x_at e).word) (reached.on_level_reached was (suc d) stands k (x_at e) (on e k high))

  inner : (e : ℕ) → e ≤ d → named_kind (x_at e).word ≡ Some Gapped
  inner e low = (lawful was (suc d) stands index e (suc (d - e)) within (omega arith)).name.named

  step_is : (e : ℕ) → e ≤ d → step_of was e index ≡ step_in t.table (x_at e) index
  step_is e low = step was (suc d) stands index e within (omega arith)

  slot_low : (e : ℕ) → e ≤ d → slot_for (spans_in t.table (x_at e)) index < length (spans_in t.table (x_at e))
  slot_low e low = subst (λ (s : PathStep). s.slot < length (spans_in t.table (x_at e))) (step_is e low) (slot_used was (suc d) stands index e within (omega arith))

  few : (e : ℕ) → e ≤ d → slot_for (spans_in t.table (x_at e)) index < slots
  few e low = let used = slot_low e low in let most = row_most (lawful was (suc d) stands index e (suc (d - e)) within (omega arith)).name in omega arith

  row_here : row ≡ row_in (x_at d).word
  row_here = row_is ∙ ap (λ (s : PathStep). s.row) (step_is d (omega arith))

  col_here : col ≡ slots + slot_for (spans_in t.table (x_at d)) index
  col_here = col_is ∙ ap (λ (s : PathStep). slots + s.slot) (step_is d (omega arith))

  -- ---- where the spans of these rows end

  now_table : t'.table ≡ record { width = t.table.width; words = t'.table.words }
  now_table = λ i. record { width = width i; words = t'.table.words }

  pivots : (e : ℕ) → e ≤ d → (k : ℕ) → k + 1 < slots → slice_index t'.table.words (base_of t.table (row_in (x_at e).word) + pivot_column k) ≡ column t.table (row_in (x_at e).word) (pivot_column k)
  pivots e low k inside =
      let fits = slot_within t.table.width Gapped 0 (omega arith) in
      let same = kept (row_in (x_at e).word) (pivot_column k) (reaches e (suc (d - e)) (omega arith)) (omega arith) (omega arith) (λ other. let is : col ≡ pivot_column k = cc in let at = col_here in omega arith) in
      subst (λ (w : Width). slice_index t'.table.words (columns w * row_in (x_at e).word + pivot_column k) ≡ column t.table (row_in (x_at e).word) (pivot_column k)) width same

  ends : (e : ℕ) → e ≤ d → SameEnds (spans_in t'.table (x_at e)) (spans_in t.table (x_at e))
  ends e low =
      let x = x_at e in
      let named = inner e low in
      subst (λ (u : Table). SameEnds (spans_in u x) (spans_in t.table x)) (sym now_table)
      (subst (λ (p : List Span × List Span). SameEnds p.0 p.1)
      (λ i. (sym (ap (λ k. spans_by (record { width = t.table.width; words = t'.table.words }) k x) named) i, sym (ap (λ k. spans_by t.table k x) named) i))
      (ends_by slots (gaps_of t.table.width Gapped) t.table.words t'.table.words (base_of t.table (row_in x.word)) x.last slots 0 x.first (λ k inside. pivots e low k (omega arith))))

  slot_same : (e : ℕ) → e ≤ d → slot_for (spans_in t'.table (x_at e)) index ≡ slot_for (spans_in t.table (x_at e)) index
  slot_same e low = ends_slot (spans_in t'.table (x_at e)) (spans_in t.table (x_at e)) index (ends e low)

  -- ---- what stands in the slots of the way

  word_now : (e : ℕ) → e ≤ d → (below t'.table (x_at e) index).word ≡ word_at t' (row_in (x_at e).word) (slots + slot_for (spans_in t.table (x_at e)) index)
  word_now e low =
      let k = slot_for (spans_in t.table (x_at e)) index in
      let many = ends_many (spans_in t'.table (x_at e)) (spans_in t.table (x_at e)) (ends e low) in
      let used = slot_low e low in
      ap (λ (n : ℕ). (span_at (spans_in t'.table (x_at e)) n).word) (slot_same e low)
      ∙ (word_in t'.table (x_at e) Gapped k (inner e low) (omega arith) ∙ ap (λ (w : Width). word_at t' (row_in (x_at e).word) (slots_of w Gapped + k)) width)

  word_then : (e : ℕ) → e ≤ d → (below t.table (x_at e) index).word ≡ word_at t (row_in (x_at e).word) (slots + slot_for (spans_in t.table (x_at e)) index)
  word_then e low = word_in t.table (x_at e) Gapped (slot_for (spans_in t.table (x_at e)) index) (inner e low) (slot_low e low)

  ends_below : (e : ℕ) → e ≤ d → ((below t'.table (x_at e) index).first ≡ (below t.table (x_at e) index).first) × ((below t'.table (x_at e) index).last ≡ (below t.table (x_at e) index).last)
  ends_below e low =
      let k = slot_for (spans_in t.table (x_at e)) index in
      let at = ends_at (spans_in t'.table (x_at e)) (spans_in t.table (x_at e)) k (ends e low) in
      let here = ap (λ (n : ℕ). span_at (spans_in t'.table (x_at e)) n) (slot_same e low) in
      (ap (λ (y : Span). y.first) here ∙ at.0, ap (λ (y : Span). y.last) here ∙ at.1)

  -- a row above that of the slot is another one
  other_row : (e : ℕ) → e < d → row ≢ row_in (x_at e).word
  other_row e low same =
      let one = reached.one_place was (suc d) stands (suc (d - e)) 1 (x_at e) (x_at d) (on e (suc (d - e)) (omega arith)) (on d 1 (omega arith)) (sym same ∙ row_here) in
      let levels = one.0 in absurd (omega arith)

  below_same : (e : ℕ) → e < d → below t'.table (x_at e) index ≡ below t.table (x_at e) index
  below_same e low =
      let k = slot_for (spans_in t.table (x_at e)) index in
      let both = ends_below e (omega arith) in
      let fits = few e (omega arith) in
      let inside = slot_within t.table.width Gapped k fits in
      let least = few d (omega arith) in
      let word : (below t'.table (x_at e) index).word ≡ (below t.table (x_at e) index).word =
      word_now e (omega arith)
      ∙ (kept (row_in (x_at e).word) (slots + k) (reaches e (suc (d - e)) (omega arith)) (omega arith) inside (λ other. other_row e low (let is : row ≡ row_in (x_at e).word = cc in is))
      ∙ sym (word_then e (omega arith))) in
      λ i. record { first = both.0 i; last = both.1 i; word = word i }

  rows_same : (e : ℕ) → e ≤ d → row_of now e index ≡ x_at e
  rows_same zero low = row_on_top t'.table (top_row now) index ∙ ((λ i. record { first = 0; last = greatest (width i); word = root i }) ∙ sym (row_on_top t.table (top_row was) index))
  rows_same (suc e) low =
      row_next now e (top_row now) index
      ∙ (ap (λ (x : Span). below t'.table x index) (rows_same e (omega arith))
      ∙ (below_same e (omega arith) ∙ sym (row_next was e (top_row was) index)))

  steps_same : (e : ℕ) → e ≤ d → step_of was e index ≡ step_of now e index
  steps_same e low =
      step_is e low
      ∙ ((λ i. record { row = row_in (x_at e).word; slot = sym (slot_same e low) i; min = (x_at e).first; max = (x_at e).last })
      ∙ (ap (λ (x : Span). step_in t'.table x index) (sym (rows_same e low)) ∙ sym (step now (suc d) stands' index e within' (omega arith))))

  -- ---- the leaf

  leaf_now : row_of now (suc d) index ≡ below t'.table (x_at d) index
  leaf_now = row_next now d (top_row now) index ∙ ap (λ (x : Span). below t'.table x index) (rows_same d (omega arith))

  leaf_then : row_of was (suc d) index ≡ below t.table (x_at d) index
  leaf_then = row_next was d (top_row was) index

  leaf_word : (row_of now (suc d) index).word ≡ word_at t' row col
  leaf_word = ap (λ (x : Span). x.word) leaf_now ∙ (word_now d (omega arith) ∙ (λ i. word_at t' (sym row_here i) (sym col_here i)))

  module _ (leaf : ℕ) (named : named_row (word_at t' row col) ≡ Some leaf) where
    leaf_is : leaf ≡ row_in (row_of now (suc d) index).word
    leaf_is =
        let w = (row_of now (suc d) index).word in
        let kind = (lawful now (suc d) stands' index (suc d) 0 within' (omega arith)).name.named in
        let whole : named_row w ≡ Some (row_in w) = rw kind refl in
        let same : named_row w ≡ Some leaf = ap named_row leaf_word ∙ named in
        cc

    ends_of_leaf : ((row_of was (suc d) index).first ≡ (row_of now (suc d) index).first) × ((row_of was (suc d) index).last ≡ (row_of now (suc d) index).last)
    ends_of_leaf =
        let both = ends_below d (omega arith) in (
          ap (λ (x : Span). x.first) leaf_then ∙ (sym both.0 ∙ sym (ap (λ (x : Span). x.first) leaf_now)),
          ap (λ (x : Span). x.last) leaf_then ∙ (sym both.1 ∙ sym (ap (λ (x : Span). x.last) leaf_now)),
        )

    last_step : record (step_of was (suc d) index) { row = leaf; slot = 0 } ≡ record (step_of now (suc d) index) { slot = 0 }
    last_step =
        let both = ends_of_leaf in
        ap (λ (s : PathStep). record s { row = leaf; slot = 0 }) (step was (suc d) stands index (suc d) within (omega arith))
        ∙ ((λ i. record { row = leaf_is i; slot = 0; min = both.0 i; max = both.1 i })
        ∙ sym (ap (λ (s : PathStep). record s { slot = 0 }) (step now (suc d) stands' index (suc d) within' (omega arith))))

    pub along_now : IsAlong (path_in t.table t.root index) leaf (path_in t'.table t'.root index)
    along_now =
        let many = levels was (suc d) stands index within in
        let many' = levels now (suc d) stands' index within' in
        record {
          many = many ∙ sym many';
          above = λ level low. steps_same level (omega arith);
          end = λ level last. (let is : level ≡ suc d = omega arith in
              subst (λ (n : ℕ). record (step_of was n index) { row = leaf; slot = 0 } ≡ record (step_of now n index) { slot = 0 }) (sym is) last_step);
        }

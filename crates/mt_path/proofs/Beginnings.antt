-- A slot of a row that begins at an index is the slot of that index; and a walk down by such slots.
use Rattle.mt_path.proofs.Prelude.{◌≡◌, ◌≢◌, ℕ, ◌+◌, ◌-◌, ◌*◌, ◌<◌, ◌≤◌, List, [], ◌∷◌, ◌++◌, Some, length, sym, ap, ◌∙◌, subst, arith, le-max_left, length_push, Kind, greatest, Leaf, Span, Fills, IsTreeOf, Rooted, Sheet, loaded, ReadsUpTo, Table, PathStep, Row, Found, IsLawfulRow, slot_for, span_at, loads_at, row_for, spans_of, found_span, IsFoundSlot, BeginsAt}
use Rattle.mt_path.proofs.Descents.{Descends, descent_goes_on}
use Rattle.mt_path.proofs.Groups.{found_here, sought}
use Rattle.mt_path.proofs.Kept.{tree_kept}
use Rattle.mt_path.proofs.LeafSlots.{fills_first, fills_slot, fills_within}
use Rattle.mt_path.proofs.Loads.{reads_more, reads_next, reads_up}
use Rattle.mt_path.proofs.Middles.{lawful_row}
use Rattle.mt_path.proofs.Searches.{found_of}
use Rattle.mt_path.proofs.Ways as ways

-- ---- in a row

fills_some : (lo hi : ℕ) (xs : List Span) → Fills lo hi xs → lo < hi → 0 < length xs
fills_some lo hi [] fills less = absurd (omega (arith, fills, less))
fills_some lo hi (x ∷ xs) fills less = omega arith

module _ (t : Table) (row : Row) (lawful : IsLawfulRow t row) where
  -- the first slot begins where the row does
  pub first_begins : (index : ℕ) → row.min ≡ index → index ≤ row.max → BeginsAt t row 0 index
  first_begins index is over =
      let some = fills_some row.min (row.max + 1) (spans_of t row) lawful.fills (omega (arith, is, over)) in
      record { used = some; first = fills_first row.min (row.max + 1) (spans_of t row) lawful.fills some ∙ is }

  module _ (slot index : ℕ) (begins : BeginsAt t row slot index) where
    inside : (row.min ≤ (span_at (spans_of t row) slot).first) × ((span_at (spans_of t row) slot).first ≤ (span_at (spans_of t row) slot).last) × ((span_at (spans_of t row) slot).last < row.max + 1)
    inside = fills_within row.min (row.max + 1) (spans_of t row) slot lawful.fills begins.used

    over : index ≤ row.max
    over = let order = inside.1 in let end = inside.2 in let is = begins.first in omega (arith, order, end, is)

    slot_sought : slot ≡ slot_for (spans_of t row) index
    slot_sought =
        let order = inside.1 in let is = begins.first in
        sym (fills_slot row.min (row.max + 1) (spans_of t row) slot index lawful.fills begins.used (omega (arith, is)) (omega (arith, order, is)))

    pub found_begins : (last : ℕ) (found : Found) → last ≡ (span_at (spans_of t row) slot).last → found ≡ found_of row slot index last → IsFoundSlot t row index found
    found_begins last found to is = found_here t row (sought t row lawful) index over slot index last found slot_sought (sym begins.first) to is

-- ---- a walk down by first slots

-- the steps so far, the slot of the next row that begins at the index, and how many words were loaded
pub record DescendsFirst (s s' : Sheet) (index entered : ℕ) (begun steps : List PathStep) (row : Row) (slot : ℕ) : Type 0 where
  pub descends : Descends s s' index entered begun steps row
  pub begins : BeginsAt s.tree.table row slot index
  pub many : length steps ≡ length begun + entered
  pub few : ReadsUpTo (2 * entered) s s'

module _ (s s' : Sheet) (kind : Kind) (tree : IsTreeOf s.tree kind) (index : ℕ) (within : index ≤ greatest s.tree.table.width)
    (entered : ℕ) (begun steps : List PathStep) (row : Row) (slot : ℕ) (first : DescendsFirst s s' index entered begun steps row slot) where
  same : s'.tree ≡ s.tree
  same = tree_kept (2 * entered) s s' first.few

  pub begins_now : BeginsAt s'.tree.table row slot index
  begins_now = subst (λ (t : Rooted). BeginsAt t.table row slot index) (sym same) first.begins

  module _ (found : Found) (at : IsFoundSlot s'.tree.table row index found) (s₁ : Sheet) (reads₁ : ReadsUpTo 1 s' s₁) (steps' : List PathStep) (pushed : steps' ≡ steps ++ (found.step ∷ [])) where
    -- one word is no more than a search takes
    pub one_word : ReadsUpTo (loads_at found.step) s' s₁
    one_word = reads_up 1 (loads_at found.step) s' s₁ (omega (arith, le-max_left 13 (found.step.slot + 1))) reads₁

    long : length steps' ≡ length begun + (entered + 1)
    long = ap length pushed ∙ (length_push steps found.step ∙ (let all = first.many in omega (arith, all)))

    pub first_reads : ReadsUpTo (2 * (length steps' - length begun) - 1) s s₁
    first_reads =
        let all = long in
        reads_up (2 * entered + 1) (2 * (length steps' - length begun) - 1) s s₁ (omega (arith, all)) (reads_more (2 * entered) 1 s s' s₁ first.few reads₁)

    pub first_goes_on : row.kind ≢ Leaf → found.first ≡ index → (span : Span) → span ≡ found_span s₁.tree.table row.kind found → (s₂ : Sheet) → s₂ ≡ loaded s₁ → (child : Row) → Some child ≡ row_for span
        → DescendsFirst s s₂ index (entered + 1) begun steps' child 0
    first_goes_on other from span is s₂ loads child named =
        let next = descent_goes_on s s' kind tree index within entered begun steps row first.descends found at s₁ one_word steps' pushed other span is s₂ loads child named in
        let child_law = lawful_row s.tree kind tree index within (length steps') child next.way in
        let begin : child.min ≡ index = ap (λ (r : Row). r.min) (ways.named span child named).1 ∙ (ap (λ (x : Span). x.first) is ∙ from) in
        let two : 2 * entered + 1 + 1 ≡ 2 * (entered + 1) = omega arith in
        record {
          descends = next;
          begins = first_begins s.tree.table child child_law index begin (ways.covers s.tree kind tree index within (length steps') child next.way);
          many = long;
          few = subst (λ (n : ℕ). ReadsUpTo n s s₂) two (reads_next (2 * entered + 1) s s₁ s₂ (reads_more (2 * entered) 1 s s' s₁ first.few reads₁) loads);
        }

-- before the first row
pub none_entered : (s : Sheet) (index : ℕ) (begun : List PathStep) (row : Row) (slot : ℕ) → Descends s s index 0 begun begun row → BeginsAt s.tree.table row slot index → ReadsUpTo 0 s s → DescendsFirst s s index 0 begun begun row slot
none_entered s index begun row slot descends begins none = record { descends = descends; begins = begins; many = omega arith; few = none }

-- the root word, the words of the way down, and the slot at its end
pub leap_reads : (s s₁ s₂ s₃ : Sheet) (above new : List PathStep) → length above < length new → ReadsUpTo 1 s s₁ → ReadsUpTo (2 * (length new - length above) - 1) s₁ s₂ → s₃ ≡ loaded s₂ → ReadsUpTo (2 * length new + 1) s s₃
leap_reads s s₁ s₂ s₃ above new more kind_read reads end =
    reads_up (1 + (2 * (length new - length above) - 1) + 1) (2 * length new + 1) s s₃ (omega (arith, more))
    (reads_next (1 + (2 * (length new - length above) - 1)) s s₂ s₃ (reads_more 1 (2 * (length new - length above) - 1) s s₁ s₂ kind_read reads) end)

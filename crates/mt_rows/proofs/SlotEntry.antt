-- An entry is replaced by another by one store of its slot, and nothing else changes.
use Rattle.mt_rows.proofs.Prelude.{◌≡◌, ◌≢◌, ℕ, zero, ◌+◌, ◌≤◌, ◌==◌, List, [], ◌∷◌, ◌++◌, Bool, false, refl, sym, ap, ◌∙◌, arith, ne_eqb, flat_map, flat_map-append, Range, reserved, over, Span, leaf_range, fills_le, fills_split, map_of, tally, times, Tree, HasWords, IsRow, Stands, top_of, root_of, IsSlotAt, with_slot, with_child, ReplacesEntry}
use Rattle.mt_rows.proofs.Between.{leaf_between, over_between, over_exact}
use Rattle.mt_rows.proofs.Heights.{map_of_split, times_split, levels_both, times_upper_shared}
use Rattle.mt_rows.proofs.RowLaws.{leaf_put}
use Rattle.mt_rows.proofs.SlotStore as store

leaf_entry : (x : Span) → x.word ≢ 0 → leaf_range x ≡ record { first = x.first; last = x.last; entry = x.word } ∷ []
leaf_entry x full = let some : (x.word == 0) ≡ false = ne_eqb x.word 0 full in rw some refl

module _ (t : Tree) (h slot entry : ℕ) (row item : Span) (has : HasWords t) (stands : Stands t h) (at : IsSlotAt t h row slot item) (old : item.word ≢ 0) (new : entry ≢ 0) (free : reserved entry ≡ false) where
  pub low : h ≡ h + zero
  low = omega arith

  abbrev pub entry_store : store.Store
  entry_store = record { tree = t; height = h; low = zero; depth = h; slot = slot; word = entry; row = row; child = item; has = has; stands = stands; levels = low; at = at }

  abbrev s : store.Store
  s = entry_store

  abbrev t' : Tree
  t' = with_slot t zero row slot entry

  abbrev front : List Range
  front = flat_map leaf_range (store.front_below s)

  abbrev back : List Range
  back = flat_map leaf_range (store.back_below s)

  parts : (x : Span) → x.word ≢ 0 → flat_map leaf_range (store.front_below s ++ (x ∷ store.back_below s)) ≡ front ++ (record { first = x.first; last = x.last; entry = x.word } ∷ back)
  parts x full = flat_map-append leaf_range (store.front_below s) (x ∷ store.back_below s) ∙ ap (λ (m : List Range). front ++ (m ++ back)) (leaf_entry x full)

  before : map_of t.table h (root_of t) ≡ front ++ (record { first = item.first; last = item.last; entry = item.word } ∷ back)
  before = map_of_split t.table h zero h (root_of t) low ∙ (ap (λ (xs : List Span). flat_map leaf_range xs) (store.below_before s) ∙ parts item old)

  after : map_of t'.table h (root_of t') ≡ front ++ (record { first = item.first; last = item.last; entry = entry } ∷ back)
  after = map_of_split t'.table h zero h (root_of t') low ∙ (ap (λ (xs : List Span). flat_map leaf_range xs) (store.below_after s) ∙ parts (with_child item entry) new)

  pub rows_stay : (p : ℕ → Span → Bool) → times p t'.table h (root_of t') ≡ times p t.table h (root_of t)
  rows_stay p =
      let was = times_split p t.table h zero h (root_of t) low in
      let is = times_split p t'.table h zero h (root_of t') low in
      let above = times_upper_shared p t.table t'.table h zero (root_of t) (store.upper_same s) in
      let here = ap (tally (p zero)) (store.level_same s) in
      omega arith

  pub replaces_entry : ReplacesEntry t t' h item entry
  replaces_entry = record {
    stands = record {
      low = stands.low;
      rows = levels_both (IsRow t') t'.table h zero h (root_of t') low (store.upper_laws s) (store.level_laws_after s (leaf_put t slot entry row has (store.row_law s) (store.used s) new free));
    };
    front = front;
    back = back;
    before = before;
    after = after;
    rows = rows_stay;
  }

  -- it is a store over just the indexes of the range
  pub is_over : over (map_of t.table h (root_of t)) item.first item.last entry ≡ map_of t'.table h (root_of t')
  is_over =
      let apart = fills_split 0 (top_of t + 1) (store.front_below s) item (store.back_below s) (store.below_fills s) in
      let order = apart.1 in
      ap (λ (m : List Range). over m item.first item.last entry) before
      ∙ (over_between 0 item.first (item.last + 1) (top_of t + 1) item.first item.last entry front (record { first = item.first; last = item.last; entry = item.word } ∷ []) back
      (leaf_between 0 item.first (store.front_below s) apart.0) (leaf_between (item.last + 1) (top_of t + 1) (store.back_below s) apart.2) (omega arith) order (omega arith)
      ∙ (ap (λ (m : List Range). front ++ (m ++ back)) (over_exact item.first item.last entry item.word order (ne_eqb entry 0 new)) ∙ sym after))

  pub within : item.last ≤ top_of t
  within =
      let apart = fills_split 0 (top_of t + 1) (store.front_below s) item (store.back_below s) (store.below_fills s) in
      let behind = fills_le (item.last + 1) (top_of t + 1) (store.back_below s) apart.2 in
      omega arith

  pub order : item.first ≤ item.last
  order = (fills_split 0 (top_of t + 1) (store.front_below s) item (store.back_below s) (store.below_fills s)).1

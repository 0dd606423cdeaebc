-- The tree that is built of ranges in good order stands for them.
use Rattle.mt_bulk.proofs.Prelude.{◌≡◌, ℕ, zero, suc, ◌+◌, ◌*◌, ◌<◌, ◌≤◌, ◌==◌, ◌||◌, false, List, [], ◌∷◌, ◌++◌, Some, None, length, replicate, nat_lt, refl, sym, ap, ◌∙◌, inl, inr, arith, length-append, AllByRecursion, cond_both, cases_Bool, or_parts, ltb-false, eqb-false, length-replicate, Kind, Range, reserved, IsMap, IsMapFrom, columns, first_row, greatest_of, most_rows, kind_width, Item, NoGaps, fills_end, fills_rise, bulk, is_misplaced, items_between, items_of, misplaced, misplaced_from}
use Rattle.mt_bulk.proofs.Facts.{StandsFor, tree_built}
use Rattle.mt_bulk.proofs.Built.{AreOfLeaves, both_words, built_stands}
use Rattle.mt_bulk.proofs.ItemLaws.{map_items_apart, map_items_fill, map_items_ranges}

-- ---- ranges in good order

pub record InOrder (kind : Kind) (low : ℕ) (m : List Range) : Type 0 where
  pub rise : IsMapFrom low m
  pub within : AllByRecursion (λ (r : Range). r.last ≤ greatest_of kind) m
  pub entries : AllByRecursion (λ (r : Range). reserved r.entry ≡ false) m

pub in_order : (kind : Kind) (at low : ℕ) (m : List Range) → misplaced_from kind at low m ≡ None → InOrder kind low m
in_order kind at low [] none = record { rise = tt; within = tt; entries = tt }
in_order kind at low (r ∷ m) none = elim (cases_Bool (is_misplaced kind low r)) [
  | inl bad ↦ let stray : Some at ≡ None = rw bad at none in absurd (cc)
  | inr good ↦
      let behind : misplaced_from kind (at + 1) (r.last + 1) m ≡ None = rw good at none in
      let others = in_order kind (at + 1) (r.last + 1) m behind in
      let one = or_parts (nat_lt r.last r.first) (nat_lt (greatest_of kind) r.last || ((r.entry == 0) || (reserved r.entry || nat_lt r.first low))) good in
      let two = or_parts (nat_lt (greatest_of kind) r.last) ((r.entry == 0) || (reserved r.entry || nat_lt r.first low)) one.1 in
      let three = or_parts (r.entry == 0) (reserved r.entry || nat_lt r.first low) two.1 in
      let four = or_parts (reserved r.entry) (nat_lt r.first low) three.1 in
      let some = eqb-false r.entry 0 three.0 in
      record {
        rise = (ltb-false r.first low four.1, ltb-false r.last r.first one.0, positive r.entry some, others.rise);
        within = (ltb-false (greatest_of kind) r.last two.0, others.within);
        entries = (four.0, others.entries);
      }
]
  where
    positive : (n : ℕ) → (n ≡ 0 → ⊥) → 0 < n
    positive zero some = absurd (some refl)
    positive (suc n) some = omega arith

-- ---- their items

items_entries : (lo hi : ℕ) (m : List Range) → AllByRecursion (λ (r : Range). reserved r.entry ≡ false) m → AllByRecursion (λ (x : Item). reserved x.word ≡ false) (items_between lo hi m)
items_entries lo hi [] each = cond_both (nat_lt lo hi) _ _ (AllByRecursion (λ (x : Item). reserved x.word ≡ false)) (λ some. (refl, tt)) (λ none. tt)
items_entries lo hi (r ∷ m) each =
    let behind = items_entries (r.last + 1) hi m each.1 in
    cond_both (nat_lt lo r.first) _ _ (λ (hole : List Item). AllByRecursion (λ (x : Item). reserved x.word ≡ false) (hole ++ (record { last = r.last; word = r.entry; gap = 0 } ∷ items_between (r.last + 1) hi m)))
    (λ some. (refl, (each.0, behind))) (λ none. (each.0, behind))

pub items_no_gaps : (lo hi : ℕ) (m : List Range) → NoGaps (items_between lo hi m)
items_no_gaps lo hi [] = cond_both (nat_lt lo hi) _ _ NoGaps (λ some. refl) (λ none. refl)
items_no_gaps lo hi (r ∷ m) =
    let behind = items_no_gaps (r.last + 1) hi m in
    cond_both (nat_lt lo r.first) _ _ (λ (hole : List Item). NoGaps (hole ++ (record { last = r.last; word = r.entry; gap = 0 } ∷ items_between (r.last + 1) hi m)))
    (λ some. ap (λ (l : List ℕ). 0 ∷ (0 ∷ l)) behind) (λ none. ap (λ (l : List ℕ). 0 ∷ l) behind)

pub some_items : (lo hi : ℕ) (r : Range) (m : List Range) → 1 ≤ length (items_between lo hi (r ∷ m))
some_items lo hi r m = cond_both (nat_lt lo r.first) _ _ (λ (hole : List Item). 1 ≤ length (hole ++ (record { last = r.last; word = r.entry; gap = 0 } ∷ items_between (r.last + 1) hi m))) (λ some. omega arith) (λ none. omega arith)

-- ---- the tree

pub bulk_stands : (tree : Kind) (r : Range) (m : List Range) (count : ℕ) → misplaced tree (r ∷ m) ≡ None → count ≤ most_rows → length (bulk tree (r ∷ m)).words ≡ columns (kind_width tree) * count → StandsFor (tree_built tree count (bulk tree (r ∷ m))) (r ∷ m)
bulk_stands tree r m count good few many =
    let order = in_order tree 0 0 (r ∷ m) good in
    let is : IsMap tree (r ∷ m) = record { rise = order.rise; within = order.within } in
    let items = items_of tree (r ∷ m) in
    let b = bulk tree (r ∷ m) in
    let front = replicate (columns (kind_width tree) * first_row) 0 in
    let long = length-replicate {A = ℕ} (columns (kind_width tree) * first_row) 0 in
    let fills = map_items_fill tree (r ∷ m) is in
    let ranges = map_items_ranges tree (r ∷ m) is in
    let some = some_items 0 (greatest_of tree + 1) r m in
    let ends = fills_end 0 0 (greatest_of tree + 1) 0 items some fills in
    let over : AreOfLeaves items = record {
      entries = items_entries 0 (greatest_of tree + 1) (r ∷ m) order.entries;
      apart = map_items_apart tree (r ∷ m) is;
      some = λ none. no_range (sym ranges ∙ none);
    } in
    let stands = built_stands tree count b.root (front ++ b.words) few (omega (arith, length-append front b.words, long, many, both_words (kind_width tree) first_row count)) front items long refl some (fills_rise 0 (greatest_of tree + 1) items fills) (omega arith)
    (items_no_gaps 0 (greatest_of tree + 1) (r ∷ m)) over in
    record { height = stands.0; rows = stands.1.0; map = stands.1.1 ∙ ranges; tended = stands.2.0; parent = stands.2.1 }
  where
    no_range : r ∷ m ≡ [] → ⊥
    no_range same = cc

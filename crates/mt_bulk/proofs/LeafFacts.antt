-- What is known of the leaves of ranges in good order, before their rows are filled.
use Rattle.mt_bulk.proofs.Prelude.{◌≡◌, ◌≢◌, ℕ, zero, suc, ◌+◌, ◌*◌, ◌≤◌, ◌==◌, List, [], ◌∷◌, Some, None, length, refl, sym, ap, ◌∙◌, subst, arith, length-append, AllByRecursion, flat_map, Kind, Range, Width, Long, Short, finds_room, IsMap, columns, first_row, greatest_of, kind_width, most_rows, Item, Leaf, slots_of, fills_rise, LeafFacts, bulk, parents_over, rows_in, rows_up, cut, ends_from, leaf_size, items_of, misplaced, Bool, Result, Ok, Err, IfErr, IfOk, inl, inr, cases_Bool, eqb-true, eqb-false, BulkError, refusal, refused_by, too_many}
use Rattle.mt_bulk.proofs.Built.{level_cut, rows_of}
use Rattle.mt_bulk.specs.declared.errors.BulkError.TheVariants as errors
use Rattle.mt_bulk.proofs.Counts.{rows_up_more, rows_up_top}
use Rattle.mt_bulk.proofs.Finished.{apart_items, refused_order, refused_rows, rows_are, rows_counted}
use Rattle.mt_bulk.proofs.ItemLaws.{map_items_apart, map_items_fill, map_items_ranges}
use Rattle.mt_bulk.proofs.Raised.{leaves_hold, length_ends}
use Rattle.mt_bulk.proofs.Raising.{IsCutLevel, level_facts}
use Rattle.mt_bulk.proofs.Whole.{in_order, items_no_gaps, some_items}

more_within : (width : Width) (a b c : ℕ) → b ≤ c → columns width * a + columns width * b ≤ columns width * (a + c)
more_within Long a b c low = omega arith
more_within Short a b c low = omega arith

no_more_rows : (rows : List (List Item)) (items : List Item) → flat_map (λ row. row) rows ≡ items → AllByRecursion (λ row. 1 ≤ length row) rows → length rows ≤ length items
no_more_rows rows items joined some = subst (λ (l : List Item). length rows ≤ length l) joined (fewer rows some)
  where
    fewer : (rows : List (List Item)) → AllByRecursion (λ row. 1 ≤ length row) rows → length rows ≤ length (flat_map (λ row. row) rows)
    fewer [] some = omega arith
    fewer (row ∷ rows) some = let own = some.0 in omega (arith, length-append row (flat_map (λ row. row) rows), fewer rows some.1)

pub leaf_level : (kind : Kind) (r : Range) (m : List Range) (rows : ℕ) → misplaced kind (r ∷ m) ≡ None → length (bulk kind (r ∷ m)).words ≡ columns (kind_width kind) * rows → rows ≤ most_rows → IsCutLevel kind 0 first_row (items_of kind (r ∷ m))
leaf_level kind r m rows good even few =
    let order = in_order kind 0 0 (r ∷ m) good in
    let is : IsMap kind (r ∷ m) = record { rise = order.rise; within = order.within } in
    let items = items_of kind (r ∷ m) in
    let some = some_items 0 (greatest_of kind + 1) r m in
    let apart = map_items_apart kind (r ∷ m) is in
    let ranges = map_items_ranges kind (r ∷ m) is in
    record {
      some = some;
      rise = fills_rise 0 (greatest_of kind + 1) items (map_items_fill kind (r ∷ m) is);
      apart = λ zero_is. apart;
      gaps = λ none. items_no_gaps 0 (greatest_of kind + 1) (r ∷ m);
      hold = leaves_hold kind items some apart (λ none. no_range (sym ranges ∙ none));
      first = omega arith;
      last = subst (λ (n : ℕ). columns (kind_width kind) * first_row + n ≤ columns (kind_width kind) * (first_row + most_rows)) (sym even) (more_within (kind_width kind) first_row rows most_rows few);
    }
  where
    no_range : r ∷ m ≡ [] → ⊥
    no_range same = cc

few_ends : (kind : Kind) (r : Range) (m : List Range) (ends : List ℕ) → misplaced kind (r ∷ m) ≡ None → ends ≡ ends_from 0 (rows_of kind 0 (items_of kind (r ∷ m))) → length ends ≤ length (items_of kind (r ∷ m))
few_ends kind r m ends good ends_are =
    let items = items_of kind (r ∷ m) in
    let c = level_cut kind 0 items (λ is. apart_items kind (r ∷ m) good) in
    let many : length ends ≡ length (rows_of kind 0 items) = ap length ends_are ∙ length_ends 0 (rows_of kind 0 items) in
    omega (arith, many, no_more_rows (rows_of kind 0 items) items c.joined c.some)

leaf_facts_of : (kind : Kind) (r : Range) (m : List Range) (ends parents : List ℕ) (rows : ℕ) → misplaced kind (r ∷ m) ≡ None → ends ≡ ends_from 0 (rows_of kind 0 (items_of kind (r ∷ m)))
    → ((above : List Item) → length above ≡ length ends → parents ≡ parents_over kind (first_row + length ends) above)
    → rows ≡ rows_up (kind_width kind) (finds_room kind) (length (items_of kind (r ∷ m))) (length ends) → rows ≤ most_rows
    → LeafFacts kind (r ∷ m) (items_of kind (r ∷ m)) ends parents rows
leaf_facts_of kind r m ends parents rows good ends_is parents_is rows_is few =
    let items = items_of kind (r ∷ m) in
    let many : length ends ≡ length (rows_of kind 0 items) = ap length ends_is ∙ length_ends 0 (rows_of kind 0 items) in
    let even : length (bulk kind (r ∷ m)).words ≡ columns (kind_width kind) * rows = rows_counted kind r m good ∙ ap (λ (n : ℕ). columns (kind_width kind) * n) (ap (rows_up (kind_width kind) (finds_room kind) (length items)) (sym many) ∙ sym rows_is) in
    let facts = level_facts kind 0 first_row items Leaf ends parents refl (leaf_level kind r m rows good even few) ends_is parents_is in
    record { good = good; few = few; even = even; some = facts.some; whole = facts.can; long = facts.long; alone = facts.alone; level = facts.level; several = facts.several }

pub leaf_facts : (kind : Kind) (ranges : List Range) (items : List Item) (ends parents : List ℕ) (rows : ℕ) → 1 ≤ length ranges → misplaced kind ranges ≡ None → items ≡ items_of kind ranges → ends ≡ ends_from 0 (cut (leaf_size (slots_of (kind_width kind) Leaf)) items)
    → ((above : List Item) → length above ≡ length ends → parents ≡ parents_over kind (first_row + length ends) above)
    → ((left : ℕ) → length ends ≤ left → rows ≡ rows_up (kind_width kind) (finds_room kind) left (length ends)) → rows ≤ most_rows
    → LeafFacts kind ranges items ends parents rows
leaf_facts kind [] items ends parents rows some good items_are ends_are parents_are rows_is few = absurd (omega arith)
leaf_facts kind (r ∷ m) items ends parents rows some good items_are ends_are parents_are rows_is few =
    let whole = items_of kind (r ∷ m) in
    let ends_is : ends ≡ ends_from 0 (rows_of kind 0 whole) = ends_are ∙ ap (λ (l : List Item). ends_from 0 (cut (leaf_size (slots_of (kind_width kind) Leaf)) l)) items_are in
    subst (λ (l : List Item). LeafFacts kind (r ∷ m) l ends parents rows) (sym items_are)
    (leaf_facts_of kind r m ends parents rows good ends_is parents_are (rows_is (length whole) (few_ends kind r m ends good ends_is)) few)

-- refusals
pub rows_in_counted : (kind : Kind) (ranges : List Range) (items : List Item) (ends : List ℕ) (rows : ℕ) → 1 ≤ length ranges → misplaced kind ranges ≡ None → items ≡ items_of kind ranges → ends ≡ ends_from 0 (cut (leaf_size (slots_of (kind_width kind) Leaf)) items)
    → ((left : ℕ) → length ends ≤ left → rows ≡ rows_up (kind_width kind) (finds_room kind) left (length ends)) → rows_in kind ranges ≡ rows
rows_in_counted kind [] items ends rows some good items_are ends_are rows_is = absurd (omega arith)
rows_in_counted kind (r ∷ m) items ends rows some good items_are ends_are rows_is =
    let whole = items_of kind (r ∷ m) in
    let ends_is : ends ≡ ends_from 0 (rows_of kind 0 whole) = ends_are ∙ ap (λ (l : List Item). ends_from 0 (cut (leaf_size (slots_of (kind_width kind) Leaf)) l)) items_are in
    let many : length ends ≡ length (rows_of kind 0 whole) = ap length ends_is ∙ length_ends 0 (rows_of kind 0 whole) in
    rows_are kind (r ∷ m) rows (rows_counted kind r m good ∙ ap (λ (n : ℕ). columns (kind_width kind) * n) (ap (rows_up (kind_width kind) (finds_room kind) (length whole)) (sym many) ∙ sym (rows_is (length whole) (few_ends kind r m ends good ends_is))))

abbrev Counts : Kind → ℕ → ℕ → Type 0
Counts kind leaves rows = (left : ℕ) → leaves ≤ left → rows ≡ rows_up (kind_width kind) (finds_room kind) left leaves

pub some_ends : (kind : Kind) (ranges : List Range) (items : List Item) (ends : List ℕ) → 1 ≤ length ranges → misplaced kind ranges ≡ None → items ≡ items_of kind ranges → ends ≡ ends_from 0 (cut (leaf_size (slots_of (kind_width kind) Leaf)) items)
    → (1 ≤ length ends) × (length ends ≤ length items)
some_ends kind [] items ends some good items_are ends_are = absurd (omega arith)
some_ends kind (r ∷ m) items ends some good items_are ends_are =
    let whole = items_of kind (r ∷ m) in
    let ends_is : ends ≡ ends_from 0 (rows_of kind 0 whole) = ends_are ∙ ap (λ (l : List Item). ends_from 0 (cut (leaf_size (slots_of (kind_width kind) Leaf)) l)) items_are in
    let many : length ends ≡ length (rows_of kind 0 whole) = ap length ends_is ∙ length_ends 0 (rows_of kind 0 whole) in
    let c = level_cut kind 0 whole (λ is. apart_items kind (r ∷ m) good) in
    let low = few_ends kind r m ends good ends_is in
    (omega (arith, many, some_rows_in (rows_of kind 0 whole) whole c.joined (some_items 0 (greatest_of kind + 1) r m)), omega (arith, low, ap length items_are))
  where
    some_rows_in : (rows : List (List Item)) (items : List Item) → flat_map (λ row. row) rows ≡ items → 1 ≤ length items → 1 ≤ length rows
    some_rows_in [] items joined some = let none = ap length joined in absurd (omega arith)
    some_rows_in (row ∷ rows) items joined some = omega arith

pub refused_items : {A : Type 0} → (kind : Kind) (ranges : List Range) (r : Result A BulkError) → IfErr r (λ e. e ≢ errors.NoMemory → (rows : ℕ) → refused_by (misplaced kind ranges) rows ≡ Some e) → IfErr r (λ e. e ≢ errors.NoMemory → refusal kind ranges ≡ Some e)
refused_items kind ranges (Ok x) told = told
refused_items kind ranges (Err e) told = λ other. refused_order kind ranges e (told other)

pub refused_over : (kind : Kind) (ranges : List Range) (items : List Item) (ends : List ℕ) → 1 ≤ length ranges → misplaced kind ranges ≡ None → items ≡ items_of kind ranges → ends ≡ ends_from 0 (cut (leaf_size (slots_of (kind_width kind) Leaf)) items)
    → (r : Result ℕ BulkError) → IfErr r (λ e. (left : ℕ) → length ends ≤ left → too_many (rows_up (kind_width kind) (finds_room kind) left (length ends)) ≡ Some e) → IfErr r (λ e. e ≢ errors.NoMemory → refusal kind ranges ≡ Some e)
refused_over kind ranges items ends some good items_are ends_are (Ok x) told = told
refused_over kind [] items ends some good items_are ends_are (Err e) told = absurd (omega arith)
refused_over kind (r ∷ m) items ends some good items_are ends_are (Err e) told =
    let left = length (items_of kind (r ∷ m)) in
    let within = (some_ends kind (r ∷ m) items ends some good items_are ends_are).1 in
    let low : length ends ≤ left = omega (arith, within, ap length items_are) in
    let rows = rows_up (kind_width kind) (finds_room kind) left (length ends) in
    let ends_is : ends ≡ ends_from 0 (rows_of kind 0 (items_of kind (r ∷ m))) = ends_are ∙ ap (λ (l : List Item). ends_from 0 (cut (leaf_size (slots_of (kind_width kind) Leaf)) l)) items_are in
    let many : length ends ≡ length (rows_of kind 0 (items_of kind (r ∷ m))) = ap length ends_is ∙ length_ends 0 (rows_of kind 0 (items_of kind (r ∷ m))) in
    let is : rows_in kind (r ∷ m) ≡ rows = rows_are kind (r ∷ m) rows (rows_counted kind r m good ∙ ap (λ (n : ℕ). columns (kind_width kind) * rows_up (kind_width kind) (finds_room kind) left n) (sym many)) in
    λ other. refused_rows kind (r ∷ m) rows e good is (told left low)

rows_at_least : (width : Width) (gapped : Bool) (left rows : ℕ) → rows ≤ left → rows ≤ rows_up width gapped left rows
rows_at_least width gapped zero rows low = omega arith
rows_at_least width gapped (suc left) rows low = elim (cases_Bool (rows == 1)) [
  | inl one ↦ let is = eqb-true rows 1 one in omega (arith, is, ap (rows_up width gapped (suc left)) is, rows_up_top width gapped (suc left) (omega arith))
  | inr other ↦ at_least rows (eqb-false rows 1 other)
]
  where
    at_least : (rows : ℕ) → (rows ≡ 1 → ⊥) → rows ≤ rows_up width gapped (suc left) rows
    at_least zero other = omega arith
    at_least (suc zero) other = absurd (other refl)
    at_least (suc (suc n)) other = omega (arith, rows_up_more width gapped left (suc (suc n)) (omega arith))

pub few_leaves : (kind : Kind) (leaves : ℕ) (r : Result ℕ BulkError) → IfOk r (Counts kind leaves) → IfOk r (λ rows. rows ≤ most_rows) → IfOk r (λ rows. leaves ≤ most_rows)
few_leaves kind leaves (Ok rows) counts few = let least = rows_at_least (kind_width kind) (finds_room kind) leaves leaves (omega arith) in omega (arith, counts leaves (omega arith), least, few)
few_leaves kind leaves (Err e) counts few = counts

-- What is built up of the items of a level is the words of the level and of those above it, and the level's rows can be filled.
use Rattle.mt_bulk.proofs.Prelude.{◌≡◌, ◌≢◌, ℕ, zero, suc, ◌+◌, ◌-◌, ◌≤◌, ◌==◌, Bool, true, false, List, [], ◌∷◌, ◌++◌, length, take, drop, nat_lt, refl, sym, ap, ◌∙◌, subst, inl, inr, arith, length-append, length-drop, Any, AllByRecursion, flat_map, cases_Bool, ltb-true, ltb-false, eqb-false, take-append_seam, drop-append_seam, drop-drop, Kind, finds_room, kind_width, Item, RowKind, FitRow, end_of, name_at, slots_of, gaps_of, spans_from, leaf_range, Apart, apart_back, apart_front, length-spans_from, spans_from-append, two_hold_an_entry, all_back, some_least, least-below-slots, kind_at, built_up, heads, levels_built, words_of, CanFill, rows_between, ends_from}
use Rattle.mt_bulk.proofs.Written.{end_anyhow}
use Rattle.mt_bulk.proofs.Built.{Least, above_of, built_more, built_top, level_cut, level_words, next_of, rows_of}
use Rattle.mt_bulk.proofs.Counts.{rows_fewer}
use Rattle.mt_bulk.proofs.Rows.{flat, length_heads}

-- ---- the levels above

pub enough_levels : (tree : Kind) (left more h number : ℕ) (items : List Item) → length items ≤ left → length items ≤ more → 1 ≤ length items → (h ≡ 0 → Apart (spans_from 0 items))
    → built_up tree left (kind_at tree h) number items ≡ built_up tree more (kind_at tree h) number items
enough_levels tree zero more h number items one two some apart = absurd (omega arith)
enough_levels tree (suc left) zero h number items one two some apart = absurd (omega arith)
enough_levels tree (suc left) (suc more) h number items one two some apart = elim (cases_Bool (length (rows_of tree h items) == 1)) [
  | inl single ↦ built_top tree left h number items single ∙ sym (built_top tree more h number items single)
  | inr several ↦
      let rows = rows_of tree h items in
      let fewer = rows_fewer tree h items some apart several in
      let less = fewer.1 in
      let as_many = length_heads (finds_room tree) (kind_at tree h) 0 number rows in
      let above = enough_levels tree left more (suc h) (next_of tree h number items) (above_of tree h number items) (omega (arith, as_many, less, one)) (omega (arith, as_many, less, two)) (omega (arith, as_many, fewer.0)) (λ is_zero. absurd (omega arith)) in
      built_more tree left h number items several
      ∙ ((λ i. record { root = (above i).root; words = level_words tree h number items ++ (above i).words }) ∙ sym (built_more tree more h number items several))
]

pub raised_top : (tree : Kind) (h number : ℕ) (items : List Item) → 1 ≤ length items → (length (rows_of tree h items) == 1) ≡ true
    → levels_built tree (kind_at tree h) number items ≡ record { root = name_at number (kind_at tree h); words = words_of (kind_width tree) (kind_at tree h) (1 ∷ []) (rows_of tree h items) }
raised_top tree h number [] some single = absurd (omega arith)
raised_top tree h number (x ∷ items) some single = built_top tree (length items) h number (x ∷ items) single

pub raised_more : (tree : Kind) (h number : ℕ) (items : List Item) → 1 ≤ length items → (h ≡ 0 → Apart (spans_from 0 items)) → (length (rows_of tree h items) == 1) ≡ false
    → levels_built tree (kind_at tree h) number items
    ≡ record { root = (levels_built tree (kind_at tree (suc h)) (next_of tree h number items) (above_of tree h number items)).root; words = level_words tree h number items ++ (levels_built tree (kind_at tree (suc h)) (next_of tree h number items) (above_of tree h number items)).words }
raised_more tree h number [] some apart several = absurd (omega arith)
raised_more tree h number (x ∷ items) some apart several =
    let rows = rows_of tree h (x ∷ items) in
    let fewer = rows_fewer tree h (x ∷ items) some apart several in
    let two = fewer.0 in
    let less = fewer.1 in
    let as_many = length_heads (finds_room tree) (kind_at tree h) 0 number rows in
    let above = above_of tree h number (x ∷ items) in
    let same = enough_levels tree (length items) (length above) (suc h) (next_of tree h number (x ∷ items)) above (omega arith) (omega arith) (omega arith) (λ is_zero. absurd (omega arith)) in
    built_more tree (length items) h number (x ∷ items) several ∙ (λ i. record { root = (same i).root; words = level_words tree h number (x ∷ items) ++ (same i).words })

-- ---- the rows of a level, found by their ends

pub rows_back : (items : List Item) (from : ℕ) (rows : List (List Item)) → from ≤ length items → flat rows ≡ drop from items → rows_between items from (ends_from from rows) ≡ rows
rows_back items from [] within joined = refl
rows_back items from (row ∷ rows) within joined =
    let long : from + length row - from ≡ length row = omega arith in
    let here : take (from + length row - from) (drop from items) ≡ row = (λ i. take (long i) (sym joined i)) ∙ take-append_seam row (flat rows) in
    let inside : from + length row ≤ length items = omega (arith, ap length joined, length-append row (flat rows), length-drop from items) in
    let next : flat rows ≡ drop (from + length row) items = sym (drop-append_seam row (flat rows)) ∙ (ap (drop (length row)) joined ∙ drop-drop (length row) from items) in
    let behind = rows_back items (from + length row) rows inside next in
    (λ i. here i ∷ behind i)

pub can_fill : (tree : Kind) (kind : RowKind) (items : List Item) (from : ℕ) (rows : List (List Item)) → from ≤ length items → flat rows ≡ drop from items → AllByRecursion (FitRow (slots_of (kind_width tree) kind) (gaps_of (kind_width tree) kind)) rows
    → AllByRecursion (Any (λ (x : Item). x.word ≢ 0)) rows → CanFill tree kind items from (ends_from from rows)
can_fill tree kind items from [] within joined fit entries = tt
can_fill tree kind items from (row ∷ rows) within joined fit entries =
    let long : from + length row - from ≡ length row = omega arith in
    let here : row ≡ take (from + length row - from) (drop from items) = sym ((λ i. take (long i) (sym joined i)) ∙ take-append_seam row (flat rows)) in
    let some = fit.0.some in
    let inside : from + length row ≤ length items = omega (arith, ap length joined, length-append row (flat rows), length-drop from items) in
    let next : flat rows ≡ drop (from + length row) items = sym (drop-append_seam row (flat rows)) ∙ (ap (drop (length row)) joined ∙ drop-drop (length row) from items) in (
      omega arith,
      inside,
      subst (FitRow (slots_of (kind_width tree) kind) (gaps_of (kind_width tree) kind)) here fit.0,
      subst (Any (λ (x : Item). x.word ≢ 0)) here entries.0,
      can_fill tree kind items (from + length row) rows inside next fit.1 entries.1,
    )

pub length_ends : (from : ℕ) (rows : List (List Item)) → length (ends_from from rows) ≡ length rows
length_ends from [] = refl
length_ends from (row ∷ rows) = ap suc (length_ends (from + length row) rows)

-- ---- each row holds an entry or a name

abbrev pub IsEntry : Item → Type 0
IsEntry x = x.word ≢ 0

any_first : (x : Item) (row : List Item) → IsEntry x → Any IsEntry (x ∷ row)
any_first x row is = (0, x, omega arith, refl, is)

any_behind : (x : Item) (row : List Item) → Any IsEntry row → Any IsEntry (x ∷ row)
any_behind x row (k, y, within, same, is) = (suc k, y, omega arith, same, is)

entry_among : (first : ℕ) (row : List Item) → flat_map leaf_range (spans_from first row) ≢ [] → Any IsEntry row
entry_among first [] some = absurd (some refl)
entry_among first (x ∷ row) some = elim (cases_Bool (x.word == 0)) [
  | inl hole ↦ any_behind x row (entry_among (x.last + 1) row (λ none. some (rw hole none)))
  | inr full ↦ any_first x row (eqb-false x.word 0 full)
]

two_each : (first : ℕ) (rows : List (List Item)) → AllByRecursion (λ row. 2 ≤ length row) rows → Apart (spans_from first (flat rows)) → AllByRecursion (Any IsEntry) rows
two_each first [] two apart = tt
two_each first (row ∷ rows) two apart =
    let some : 1 ≤ length row = (let both = two.0 in omega arith) in
    let parts = subst Apart (spans_from-append first row (flat rows) some) apart in
    let own = apart_front (spans_from first row) (spans_from (end_of 0 row + 1) (flat rows)) parts in
    let behind = subst (λ (n : ℕ). Apart (spans_from (n + 1) (flat rows))) (end_anyhow 0 first row some) (apart_back (spans_from first row) (spans_from (end_of 0 row + 1) (flat rows)) parts) in
    (entry_among first row (two_hold_an_entry (spans_from first row) own (let both = two.0 in omega (arith, length-spans_from first row))), two_each (end_of first row + 1) rows two.1 behind)

at_least_two : (least : ℕ) (rows : List (List Item)) → 2 ≤ least → AllByRecursion (λ row. least ≤ length row) rows → AllByRecursion (λ row. 2 ≤ length row) rows
at_least_two least [] two many = tt
at_least_two least (row ∷ rows) two many = ((let own = many.0 in omega arith), at_least_two least rows two many.1)

pub leaves_hold : (tree : Kind) (items : List Item) → 1 ≤ length items → Apart (spans_from 0 items) → flat_map leaf_range (spans_from 0 items) ≢ [] → AllByRecursion (Any IsEntry) (rows_of tree 0 items)
leaves_hold tree items some apart holds =
    let c = level_cut tree 0 items (λ is. apart) in
    let two = some_least (kind_width tree) (kind_at tree 0) in
    elim (cases_Bool (nat_lt (length items) (Least tree 0))) [
      | inl short ↦
          let low = ltb-true (length items) (Least tree 0) short in
          let most = least-below-slots (kind_width tree) (kind_at tree 0) in
          subst (AllByRecursion (Any IsEntry)) (sym (c.one some (omega arith))) (entry_among 0 items holds, tt)
      | inr long ↦
          two_each 0 (rows_of tree 0 items) (at_least_two (Least tree 0) (rows_of tree 0 items) two (c.many (ltb-false (length items) (Least tree 0) long))) (subst (λ (l : List Item). Apart (spans_from 0 l)) (sym c.joined) apart)
    ]

pub heads_are_named : (gapped : Bool) (kind : RowKind) (first number : ℕ) (rows : List (List Item)) → AllByRecursion IsEntry (heads gapped kind first number rows)
heads_are_named gapped kind first number [] = tt
heads_are_named gapped kind first number (row ∷ rows) = ((λ none. absurd (omega arith)), heads_are_named gapped kind (end_of first row + 1) (number + 1) rows)

pub rows_hold : (rows : List (List Item)) → AllByRecursion IsEntry (flat rows) → AllByRecursion (λ row. 1 ≤ length row) rows → AllByRecursion (Any IsEntry) rows
rows_hold [] each some = tt
rows_hold ([] ∷ rows) each some = absurd (let none = some.0 in omega arith)
rows_hold ((x ∷ row) ∷ rows) each some = (any_first x row each.0, rows_hold rows (all_back IsEntry (x ∷ row) (flat rows) each) some.1)

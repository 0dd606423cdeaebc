-- The rows of a level drafted, by the ledger: they hold their parts of the items, and those drafted before keep their words.
use Rattle.mt_splice.proofs.Prelude.{◌≡◌, ℕ, zero, suc, ◌+◌, ◌-◌, ◌<◌, ◌≤◌, List, ◌∷◌, ◌++◌, Bool, true, false, length, refl, sym, ap, ◌∙◌, subst, arith, append_assoc, append-nil, slice_index, ltb-true, lt-ltb, Width, columns, first_row, Book, Item, RowKind, Span, end_of, row_words, name_at, slots_of, gaps_of, spans_from, row_in-name_at, after, after_some, fills_rise, length-spans_from, rise_from_zero, Tree, kind_on, is_row_of, Rooted, Sheet, Table, column, inner_of, tally-append, NewRow, IsRowTaken, AreRowsTaken, noted_row, noted_rows, part_of, heads, AreHeld, was_seen, IsLedger, Layer, newest_first, AreAllHeld, Before, IsStartOf, new_row_by, new_rows_of, Seen, passing, Start, tree_with, IsNewRow, no_parent, []}
use Rattle.mt_splice.proofs.LevelRows.{new_rows_stay}
use Rattle.mt_splice.proofs.LevelRuns.{AreParts, IsPart, length-part}
use Rattle.mt_splice.proofs.StepSeen.{not_both, seen_here, seen_more}
use Rattle.mt_splice.proofs.Steps.{progress_taken, row_number, row_was_untaken, IsRowWritten}
use Rattle.mt_splice.proofs.WrittenRows.{new_spans}

-- ---- which rows were taken

-- those taken before others were
pub taken_behind : (xs ys : List Seen) (row : ℕ) → was_seen ys row ≡ true → was_seen (xs ++ ys) row ≡ true
taken_behind xs ys row some =
    let few = ltb-true 0 (passing (is_row_of row) ys) some in let all = tally-append (λ (s : Seen). is_row_of row s.height s.at) xs ys in
    lt-ltb 0 (passing (is_row_of row) (xs ++ ys)) (omega arith)

-- ---- rows that keep all their words

pub new_row_stays : (t t' : Table) (kind : RowKind) (row : ℕ) (items : List Item) → t'.width ≡ t.width → ((c : ℕ) → c < columns t.width → column t' row c ≡ column t row c) → IsNewRow t kind row items → IsNewRow t' kind row items
new_row_stays t t' kind row items width same new = record {
  number = new.number;
  some = new.some;
  fit = subst (λ (v : Width). length items ≤ slots_of v kind) (sym width) new.fit;
  rise = new.rise;
  own = λ c within.
      let there = subst (λ (v : Width). c < columns v) width within in
      same c there ∙ (new.own c there ∙ ap (λ (v : Width). slice_index (row_words (columns v) (slots_of v kind) (gaps_of v kind) no_parent items) c) (sym width));
}

-- what was drafted stays so, whatever is taken beside it
pub held_stay : (t t' : Tree) (is_new is_new' : ℕ → Bool) → t'.table.width ≡ t.table.width → t'.rows ≡ t.rows → ((row : ℕ) → is_new row ≡ true → is_new' row ≡ true)
    → ((row c : ℕ) → is_new row ≡ true → c < columns t.table.width → column t'.table row c ≡ column t.table row c) → (kind : RowKind) (items : List Item) (from : ℕ) (ends rows : List ℕ) → AreHeld t is_new kind items from ends rows → AreHeld t' is_new' kind items from ends rows
held_stay t t' is_new is_new' width many more same kind items from [] rows held = tt
held_stay t t' is_new is_new' width many more same kind items from (to ∷ ends) [] held = tt
held_stay t t' is_new is_new' width many more same kind items from (to ∷ ends) (row ∷ rows) held = (
  new_row_stays t.table t'.table kind row (part_of items from to) width (λ c within. same row c held.1 within) held.0,
  more row held.1,
  subst (λ (n : ℕ). row < first_row + n) (sym many) held.2,
  held_stay t t' is_new is_new' width many more same kind items to ends rows held.3,
)

pub all_held_stay : (start : Start) (words words' : List ℕ) (is_new is_new' : ℕ → Bool) → ((row : ℕ) → is_new row ≡ true → is_new' row ≡ true)
    → ((row c : ℕ) → is_new row ≡ true → c < columns start.tree.table.width → column (tree_with start.tree words').table row c ≡ column (tree_with start.tree words).table row c) → (layers : List Layer) → AreAllHeld start words is_new layers → AreAllHeld start words' is_new' layers
all_held_stay start words words' is_new is_new' more same [] held = tt
all_held_stay start words words' is_new is_new' more same (l ∷ lower) held = (
  held_stay (tree_with start.tree words) (tree_with start.tree words') is_new is_new' refl refl more same (kind_on start.tree.gapped (length lower)) l.items 0 l.ends l.rows held.0,
  all_held_stay start words words' is_new is_new' more same lower held.1,
)

-- ---- the rows of a level

module _ {b : Before} {start : Start} (before : IsStartOf b start) (h : ℕ) (above kind : RowKind) (items : List Item) where
  abbrev spans_up : ℕ → ℕ → List ℕ → List ℕ → List Span
  spans_up at from ends rows = spans_from at (heads above kind at items from ends rows)

  abbrev seen_up : ℕ → ℕ → ℕ → ℕ → Seen
  seen_up at from to row = record { height = h; at = record { first = at; last = end_of 0 (part_of items from to); word = name_at row kind } }

  abbrev written : {s s' : Sheet} {book book' : Book} (from to row : ℕ) → IsRowTaken s s' book book' kind (part_of items from to) row → IsRowWritten s s' book book' kind (part_of items from to) (name_at row kind)
  written from to row one = record { row = row; taken = one.taken; named = refl; drafted = one.drafted }

  regroup : (at from to row : ℕ) (ends rows : List ℕ) (taken : List Seen)
      → newest_first h (spans_up (end_of 0 (part_of items from to) + 1) to ends rows) ++ (seen_up at from to row ∷ taken) ≡ newest_first h (spans_up at from (to ∷ ends) (row ∷ rows)) ++ taken
  regroup at from to row ends rows taken = sym (append_assoc (newest_first h (spans_up (end_of 0 (part_of items from to) + 1) to ends rows)) (seen_up at from to row ∷ []) taken)

  pub ledger_then : (at from : ℕ) (ends rows : List ℕ) {s s' : Sheet} {book book' : Book} {taken gone : List Seen} → IsLedger b s book taken gone → AreRowsTaken kind items from ends rows s s' book book'
      → IsLedger b s' book' (newest_first h (spans_up at from ends rows) ++ taken) gone
  ledger_then at from [] [] {taken = taken} {gone = gone} ledger same = subst (λ (p : Sheet × Book). IsLedger b p.0 p.1 taken gone) (λ i. (sym same.0 i, sym same.1 i)) ledger
  ledger_then at from [] (row ∷ rows) ledger none = absurd none
  ledger_then at from (to ∷ ends) [] ledger none = absurd none
  ledger_then at from (to ∷ ends) (row ∷ rows) {s' = s'} {book' = book'} {taken = taken} {gone = gone} ledger (s₁, book₁, one, rest) =
      subst (λ (l : List Seen). IsLedger b s' book' l gone) (regroup at from to row ends rows taken)
      (ledger_then (end_of 0 (part_of items from to) + 1) to ends rows (progress_taken (seen_up at from to row) before ledger (written from to row one)) rest)

  -- rows that were taken before keep all their words
  pub taken_stay : (at from : ℕ) (ends rows : List ℕ) (s s' : Sheet) (book book' : Book) {taken gone : List Seen} → IsLedger b s book taken gone → AreRowsTaken kind items from ends rows s s' book book'
      → (r : ℕ) → was_seen taken r ≡ true → (c : ℕ) → c < columns s.tree.table.width → column s'.tree.table r c ≡ column s.tree.table r c
  taken_stay at from [] [] s s' book book' ledger same r some c within = ap (λ (x : Sheet). column x.tree.table r c) same.0
  taken_stay at from [] (row ∷ rows) s s' book book' ledger none r some c within = absurd none
  taken_stay at from (to ∷ ends) [] s s' book book' ledger none r some c within = absurd none
  taken_stay at from (to ∷ ends) (row ∷ rows) s s' book book' {taken = taken} {gone = gone} ledger (s₁, book₁, one, rest) r some c within =
      let seen = seen_up at from to row in
      let width : s₁.tree.table.width ≡ s.tree.table.width = ap (λ (t : Rooted). t.table.width) one.drafted.only.tree in
      taken_stay (end_of 0 (part_of items from to) + 1) to ends rows s₁ s' book₁ book' (progress_taken seen before ledger (written from to row one)) rest r (seen_more seen taken r some) c (subst (λ (v : Width). c < columns v) (sym width) within)
      ∙ one.drafted.only.others r c
      (λ same. not_both (was_seen taken r) some (ap (was_seen taken) (same ∙ sym (row_in-name_at row kind)) ∙ row_was_untaken seen before ledger (written from to row one))) within

  pub width_then : (from : ℕ) (ends rows : List ℕ) (s s' : Sheet) (book book' : Book) → AreRowsTaken kind items from ends rows s s' book book' → s'.tree.table.width ≡ s.tree.table.width
  width_then from [] [] s s' book book' same = ap (λ (x : Sheet). x.tree.table.width) same.0
  width_then from [] (row ∷ rows) s s' book book' none = absurd none
  width_then from (to ∷ ends) [] s s' book book' none = absurd none
  width_then from (to ∷ ends) (row ∷ rows) s s' book book' (s₁, book₁, one, rest) = width_then to ends rows s₁ s' book₁ book' rest ∙ ap (λ (t : Rooted). t.table.width) one.drafted.only.tree

  module _ (of_kind : kind ≡ kind_on start.tree.gapped h) where
    -- a row as it was drafted
    new_row : {s s₁ : Sheet} {book book₁ : Book} {taken gone : List Seen} (at from to row : ℕ) → IsLedger b s book taken gone → IsRowTaken s s₁ book book₁ kind (part_of items from to) row → IsPart start.tree h at items from to
        → IsNewRow s₁.tree.table kind row (part_of items from to) × (row < first_row + start.tree.rows)
    new_row {s} {s₁} at from to row ledger one part =
        let seen = seen_up at from to row in
        let number = row_number seen before ledger (written from to row one) in let few = ledger.whole.few in
        let width : s₁.tree.table.width ≡ s.tree.table.width = ap (λ (t : Rooted). t.table.width) one.drafted.only.tree in
        let slots : slots_of start.tree.table.width (kind_on start.tree.gapped h) ≡ slots_of s₁.tree.table.width kind =
        λ i. slots_of ((ap (λ (t : Tree). t.table.width) before.tree ∙ sym (width ∙ ap (λ (t : Rooted). t.table.width) ledger.tree)) i) (sym of_kind i) in
        let long = length-part items from to part.within in let some = part.some in let fit = part.fit in (
          record {
            number = (number.0, omega (arith, number.1, few));
            some = omega arith;
            fit = omega arith;
            rise = rise_from_zero at (part_of items from to) (fills_rise at (after at (part_of items from to)) (part_of items from to) part.run.fills);
            own = λ c within.
                one.drafted.own c (subst (λ (v : Width). c < columns v) width within)
                ∙ ap (λ (v : Width). slice_index (row_words (columns v) (slots_of v kind) (gaps_of v kind) no_parent (part_of items from to)) c) (sym width);
          },
          subst (λ (n : ℕ). row < first_row + n) (ap (λ (t : Rooted). t.rows) ledger.tree ∙ sym (ap (λ (t : Tree). t.rows) before.tree)) number.1,
        )

    -- the rows hold their parts
    pub held_then : (at from : ℕ) (ends rows : List ℕ) (s s' : Sheet) (book book' : Book) {taken gone : List Seen} → IsLedger b s book taken gone → AreRowsTaken kind items from ends rows s s' book book' → AreParts start.tree h at items from ends
        → s'.tree.table.width ≡ start.tree.table.width → AreHeld (tree_with start.tree s'.tree.table.words) (was_seen (newest_first h (spans_up at from ends rows) ++ taken)) kind items from ends rows
    held_then at from [] [] s s' book book' ledger same parts wide = tt
    held_then at from [] (row ∷ rows) s s' book book' ledger none parts wide = tt
    held_then at from (to ∷ ends) [] s s' book book' ledger none parts wide = tt
    held_then at from (to ∷ ends) (row ∷ rows) s s' book book' {taken = taken} ledger (s₁, book₁, one, rest) parts wide =
        let seen = seen_up at from to row in
        let step = progress_taken seen before ledger (written from to row one) in
        let part = part_of items from to in
        let long = length-part items from to parts.0.within in let some = parts.0.some in
        let behind = after_some at 0 part (omega arith) in
        let new = new_row at from to row ledger one parts.0 in
        let width = width_then to ends rows s₁ s' book₁ book' rest in
        let there : IsNewRow s'.tree.table kind row part = new_row_stays s₁.tree.table s'.tree.table kind row part width (λ c within. taken_stay (end_of 0 part + 1) to ends rows s₁ s' book₁ book' step rest row (seen_here seen taken row (row_in-name_at row kind)) c within) new.0 in
        subst (λ (l : List Seen). AreHeld (tree_with start.tree s'.tree.table.words) (was_seen l) kind items from (to ∷ ends) (row ∷ rows)) (regroup at from to row ends rows taken) (
          subst (λ (v : Width). IsNewRow (record { width = v; words = s'.tree.table.words }) kind row part) wide there,
          taken_behind (newest_first h (spans_up (end_of 0 part + 1) to ends rows)) (seen ∷ taken) row (seen_here seen taken row (row_in-name_at row kind)),
          new.1,
          held_then (end_of 0 part + 1) to ends rows s₁ s' book₁ book' step rest (subst (λ (n : ℕ). AreParts start.tree h n items to ends) behind parts.1) wide,
        )

    -- and are noted, where they have children
    one_noted : (n : ℕ) (k : RowKind) → k ≡ kind_on start.tree.gapped n → (t : Table) (at from to row : ℕ) → IsNewRow t k row (part_of items from to) → to ≤ length items
        → new_row_by n t (record { height = n; at = record { first = at; last = end_of 0 (part_of items from to); word = name_at row k } }) ≡ noted_row k row (to - from)
    one_noted zero k is t at from to row new within = sym (ap (λ (k : RowKind). noted_row k row (to - from)) is)
    one_noted (suc n) k is t at from to row new within =
        let count = ap length (new_spans t k row (part_of items from to) new at) ∙ (length-spans_from at (part_of items from to) ∙ length-part items from to within) in
        (λ i. record { row = row_in-name_at row k i; count = count i } ∷ []) ∙ sym (ap (λ (k : RowKind). noted_row k row (to - from)) is ∙ of_inner start.tree.gapped)
      where
        of_inner : (gapped : Bool) → noted_row (inner_of gapped) row (to - from) ≡ record { row = row; count = to - from } ∷ []
        of_inner false = refl
        of_inner true = refl

    noted_by : (t : Table) (taken : List Seen) (is_new : ℕ → Bool) (tree : Tree) → tree.table ≡ t → (at from : ℕ) (ends rows : List ℕ) → AreHeld tree is_new kind items from ends rows → AreParts start.tree h at items from ends → length rows ≡ length ends
        → new_rows_of t (newest_first h (spans_up at from ends rows) ++ taken) ≡ new_rows_of t taken ++ noted_rows kind from ends rows
    noted_by t taken is_new tree same at from [] rows held parts many = sym (append-nil (new_rows_of t taken))
    noted_by t taken is_new tree same at from (to ∷ ends) [] held parts many = absurd (omega arith)
    noted_by t taken is_new tree same at from (to ∷ ends) (row ∷ rows) held parts many =
        let seen = seen_up at from to row in
        let part = part_of items from to in
        let long = length-part items from to parts.0.within in let some = parts.0.some in
        let behind = after_some at 0 part (omega arith) in
        let rest = noted_by t (seen ∷ taken) is_new tree same (end_of 0 part + 1) to ends rows held.3 (subst (λ (n : ℕ). AreParts start.tree h n items to ends) behind parts.1) (omega arith) in
        sym (ap (new_rows_of t) (regroup at from to row ends rows taken))
        ∙ (rest
        ∙ (append_assoc (new_rows_of t taken) (new_row_by h t seen) (noted_rows kind to ends rows)
        ∙ ap (λ (l : List NewRow). new_rows_of t taken ++ (l ++ noted_rows kind to ends rows)) (one_noted h kind of_kind t at from to row (subst (λ (t : Table). IsNewRow t kind row part) same held.0) parts.0.within)))

    pub noted_then : (at from : ℕ) (ends rows : List ℕ) (s s' : Sheet) (book book' : Book) {taken gone : List Seen} → IsLedger b s book taken gone → AreRowsTaken kind items from ends rows s s' book book' → AreParts start.tree h at items from ends → length rows ≡ length ends
        → s'.tree.table.width ≡ start.tree.table.width → {made made' : List NewRow} → made ≡ new_rows_of s.tree.table taken → made' ≡ made ++ noted_rows kind from ends rows → made' ≡ new_rows_of s'.tree.table (newest_first h (spans_up at from ends rows) ++ taken)
    noted_then at from ends rows s s' book book' {taken = taken} ledger are parts many wide {made} {made'} made_is noted =
        let held = held_then at from ends rows s s' book book' ledger are parts wide in
        let table : (tree_with start.tree s'.tree.table.words).table ≡ s'.tree.table = λ i. record { width = sym wide i; words = s'.tree.table.words } in
        let kept : new_rows_of s'.tree.table taken ≡ new_rows_of s.tree.table taken =
        new_rows_stay s.tree.table s'.tree.table taken (width_then from ends rows s s' book book' are) (λ row some c above within. taken_stay at from ends rows s s' book book' ledger are row some c within) in
        noted
        ∙ ((λ i. (made_is ∙ sym kept) i ++ noted_rows kind from ends rows)
        ∙ sym (noted_by s'.tree.table taken (was_seen (newest_first h (spans_up at from ends rows) ++ taken)) (tree_with start.tree s'.tree.table.words) table at from ends rows held parts many))

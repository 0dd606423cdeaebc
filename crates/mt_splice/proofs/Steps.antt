-- One step of a replacement: a row is written, or is buried and retired, or words are loaded.
use Rattle.mt_splice.proofs.Prelude.{◌≡◌, ◌≢◌, ℕ, ◌+◌, ◌<◌, ◌≤◌, List, ◌∷◌, ◌++◌, Bool, true, false, Option, length, map, refl, sym, ap, ◌∙◌, subst, ⊎_elim, arith, get_or, get_or-set_same, get_or-set_other, set, length-set, append_assoc, length-append, Contains, All, slice_index_or, if◌then◌else◌, cases_Bool, cases_eq, map_push, map-append, get_or_append_left, get_or-append-add, get_or_default, All-contains, All-append, All-map, Contains-append_left, Contains-append_right, Contains-append_cases, Width, columns, first_row, Item, RowKind, row_in, dead_mark, name_at, row_in-name_at, some_columns, Book, StampedRow, IsRowOf, IsOut, held_rows, after_retire, AreApart, Life, New, Draft, Live, Dead, column, base_of, Rooted, Sheet, IsFree, MayBury, OnlyReads, life_of, is_buried, after_bury, is_reached, Tree, Seen, Start, table_with, with_words, no_parent, IsRowDrafted, IsUnheld, IsUnpublished, Before, IsStartOf, row_seen, stamped, IsLedger, [], was_seen}
use Rattle.mt_splice.proofs.Drafts.{other_row, other_column, same_column, is_draft, other_life, whole_then}
use Rattle.mt_splice.proofs.StepSeen.{not_both, seen_here, seen_other, seen_before, seen_not_here, seen_last, seen_not_last, seen_front, seen_front_not_last, listed_seen, not_listed}

-- A row was taken from the book and holds the items, a draft; the word names it.
pub record IsRowWritten (s s' : Sheet) (book book' : Book) (kind : RowKind) (items : List Item) (word : ℕ) : Type 0 where
  pub row : ℕ
  pub taken : book ≡ record book' { free = book'.free ++ row ∷ [] }
  pub named : word ≡ name_at row kind
  pub drafted : IsRowDrafted s s' row kind items

-- ---- what is true of lists and lives

-- no row stands both in front and behind
apart_sides : (xs ys : List ℕ) (x : ℕ) → AreApart (xs ++ ys) → Contains xs x → Contains ys x → ⊥
apart_sides xs ys x apart (k, k_within, k_is) (j, j_within, j_is) =
    apart k (length xs + j) x (omega arith) (let all = length-append xs ys in omega arith) (get_or_append_left xs ys x k k_within ∙ (k_is ∙ sym (get_or-append-add xs ys j x ∙ j_is)))

spare_is_free : (cleared : ℕ) (life : Life) → IsUnheld cleared life → IsFree cleared life
spare_is_free cleared New spare = tt
spare_is_free cleared Draft spare = tt
spare_is_free cleared Live spare = spare
spare_is_free cleared (Dead call) spare = spare

pub rows_stamped : (number : ℕ) (gone : List Seen) → map (λ (h : StampedRow). h.row) (map (stamped number) gone) ≡ map row_seen gone
rows_stamped number [] = refl
rows_stamped number (s ∷ gone) = ap (λ (l : List ℕ). row_seen s ∷ l) (rows_stamped number gone)

-- ---- one moment

module _ {b : Before} {start : Start} {s : Sheet} {book : Book} {taken gone : List Seen} (before : IsStartOf b start) (ledger : IsLedger b s book taken gone) where
  pub table_now : table_with start.tree.table s.tree.table.words ≡ s.tree.table
  table_now = ap (λ (t : Tree). table_with t.table s.tree.table.words) before.tree ∙ sym (ap (λ (t : Rooted). t.table) ledger.tree)

  pub width_now : s.tree.table.width ≡ b.sheet.tree.table.width
  width_now = ap (λ (t : Rooted). t.table.width) ledger.tree

  pub rows_now : s.tree.rows ≡ b.sheet.tree.rows
  rows_now = ap (λ (t : Rooted). t.rows) ledger.tree

  cleared_now : s.cleared ≡ b.sheet.cleared
  cleared_now = ap (λ (k : Sheet). k.cleared) ledger.rest

  was_free : (row : ℕ) → Contains book.free row → Contains b.book.free row
  was_free row here = subst (λ (l : List ℕ). Contains l row) (sym ledger.free) (Contains-append_left book.free (map row_seen taken) row here)

  -- rows that are free now

  free_number : (row : ℕ) → Contains book.free row → IsRowOf b.book row
  free_number row here = All-contains (IsRowOf b.book) b.book.free row before.kept.booked.sound.free_rows (was_free row here)

  free_unreached : (row : ℕ) → Contains book.free row → is_reached b.sheet.tree row ≡ false
  free_unreached row here =
      ⊎_elim (λ (is : is_reached b.sheet.tree row ≡ true). absurd ((before.kept.booked.reached row is).not_free (was_free row here))) (λ (not : is_reached b.sheet.tree row ≡ false). not) (cases_Bool (is_reached b.sheet.tree row))

  apart_now : AreApart (book.free ++ (map row_seen taken ++ held_rows b.book))
  apart_now = subst AreApart (ap (λ (l : List ℕ). l ++ held_rows b.book) ledger.free ∙ append_assoc book.free (map row_seen taken) (held_rows b.book)) before.kept.booked.sound.once

  free_untaken : (row : ℕ) → Contains book.free row → was_seen taken row ≡ false
  free_untaken row here = not_listed taken row (λ listed. apart_sides book.free (map row_seen taken ++ held_rows b.book) row apart_now here (Contains-append_left (map row_seen taken) (held_rows b.book) row listed))

  life_untaken : (row : ℕ) → first_row ≤ row → row < first_row + b.sheet.tree.rows → was_seen taken row ≡ false → life_of s.lives row ≡ life_of b.sheet.lives row
  life_untaken row low high untaken = ledger.lives row low high ∙ ap (λ (t : Bool). if t then Draft else life_of b.sheet.lives row) untaken

  free_is_free : (row : ℕ) → Contains book.free row → IsFree s.cleared (life_of s.lives row)
  free_is_free row here =
      let at = free_number row here in
      let spare = All-contains (λ (row : ℕ). IsUnheld b.sheet.cleared (life_of b.sheet.lives row)) b.book.free row before.kept.booked.spare (was_free row here) in
      let same = life_untaken row at.0 (subst (λ (n : ℕ). row < first_row + n) before.kept.booked.rows at.1) (free_untaken row here) in
      subst (λ (life : Life). IsFree s.cleared life) (sym same) (subst (λ (n : ℕ). IsFree n (life_of b.sheet.lives row)) (sym cleared_now) (spare_is_free b.sheet.cleared (life_of b.sheet.lives row) spare))

  -- each row that is free may be written anew
  pub all_free : All (λ row. IsFree s.cleared (life_of s.lives row)) book.free
  all_free = λ k d within. free_is_free (get_or book.free k d) (k, within, get_or_default book.free k (get_or book.free k d) d within)

  -- rows that were reached

  pub reached_untaken : (row : ℕ) → is_reached b.sheet.tree row ≡ true → was_seen taken row ≡ false
  reached_untaken row reached =
      not_listed taken row (λ listed. (before.kept.booked.reached row reached).not_free (subst (λ (l : List ℕ). Contains l row) (sym ledger.free) (Contains-append_right book.free (map row_seen taken) row listed)))

  reached_number : (row : ℕ) → is_reached b.sheet.tree row ≡ true → (first_row ≤ row) × (row < first_row + b.sheet.tree.rows)
  reached_number row reached = let at = (before.kept.booked.reached row reached).here in (at.0, subst (λ (n : ℕ). row < first_row + n) before.kept.booked.rows at.1)

  reached_live : (row : ℕ) → is_reached b.sheet.tree row ≡ true → life_of s.lives row ≡ Live
  reached_live row reached =
      let at = reached_number row reached in
      life_untaken row at.0 at.1 (reached_untaken row reached) ∙ (before.kept.live row at.0 at.1).1 reached

-- ---- a row is written

module _ {b : Before} {start : Start} {s s' : Sheet} {book book' : Book} {taken gone : List Seen} {kind : RowKind} {items : List Item} (seen : Seen) (before : IsStartOf b start) (ledger : IsLedger b s book taken gone)
    (written : IsRowWritten s s' book book' kind items seen.at.word) where
  seen_row : row_seen seen ≡ written.row
  seen_row = ap row_in written.named ∙ row_in-name_at written.row kind

  free_before : book.free ≡ book'.free ++ written.row ∷ []
  free_before = ap (λ (k : Book). k.free) written.taken

  row_here : Contains book.free written.row
  row_here = subst (λ (l : List ℕ). Contains l written.row) (sym free_before) (Contains-append_right book'.free (written.row ∷ []) written.row (0, omega arith, refl))

  pub row_number : (first_row ≤ written.row) × (written.row < first_row + s.tree.rows)
  row_number =
      let at = free_number before ledger written.row row_here in
      (at.0, subst (λ (n : ℕ). written.row < first_row + n) (before.kept.booked.rows ∙ sym (rows_now before ledger)) at.1)

  pub row_was_untaken : was_seen taken (row_seen seen) ≡ false
  row_was_untaken = ap (was_seen taken) seen_row ∙ free_untaken before ledger written.row row_here

  other_than : (row : ℕ) → row_seen seen ≢ row → row ≢ written.row
  other_than row other same = other (seen_row ∙ sym same)

  life_same : (row : ℕ) → row_seen seen ≡ row → life_of s'.lives row ≡ (if was_seen (seen ∷ taken) row then Draft else life_of b.sheet.lives row)
  life_same row same =
      ap (life_of s'.lives) (sym same ∙ seen_row)
      ∙ (is_draft written.drafted.only ledger.whole row_number.1 ∙ sym (ap (λ (t : Bool). if t then Draft else life_of b.sheet.lives row) (seen_here seen taken row same)))

  life_other : (row : ℕ) → row_seen seen ≢ row → first_row ≤ row → row < first_row + b.sheet.tree.rows → life_of s'.lives row ≡ (if was_seen (seen ∷ taken) row then Draft else life_of b.sheet.lives row)
  life_other row other low high =
      other_life written.drafted.only row (other_than row other)
      ∙ (ledger.lives row low high ∙ sym (ap (λ (t : Bool). if t then Draft else life_of b.sheet.lives row) (seen_other seen taken row other)))

  column_other : (row c : ℕ) → row_seen seen ≢ row → c < columns s.tree.table.width → column s'.tree.table row c ≡ column s.tree.table row c
  column_other row c other within = written.drafted.only.others row c (other_than row other) within

  within_now : (c : ℕ) → c < columns b.sheet.tree.table.width → c < columns s.tree.table.width
  within_now c within = subst (λ (v : Width). c < columns v) (sym (width_now before ledger)) within

  parent_new : (row : ℕ) → was_seen (seen ∷ taken) row ≡ true → column s'.tree.table row 0 ≡ no_parent
  parent_new row some =
      ⊎_elim (λ (same : row_seen seen ≡ row). ap (λ (r : ℕ). column s'.tree.table r 0) (sym same ∙ seen_row) ∙ written.drafted.own 0 (some_columns s.tree.table.width))
      (λ (other : row_seen seen ≢ row). column_other row 0 other (some_columns s.tree.table.width) ∙ ledger.new_parents row (sym (seen_other seen taken row other) ∙ some))
      (cases_eq (row_seen seen) row)

  -- a row that was reached is not the one that is written
  mark_stays : (row : ℕ) → is_reached b.sheet.tree row ≡ true → was_seen gone row ≡ true → column s'.tree.table row 0 ≡ dead_mark row
  mark_stays row reached some =
      column_other row 0 (λ same. not_both (is_reached b.sheet.tree row) reached (ap (is_reached b.sheet.tree) (sym same ∙ seen_row) ∙ free_unreached before ledger written.row row_here)) (some_columns s.tree.table.width)
      ∙ ledger.marks row reached some

  pub progress_taken : IsLedger b s' book' (seen ∷ taken) gone
  progress_taken = record {
    rest = ap (λ (k : Sheet). record k { tree = b.sheet.tree; lives = b.sheet.lives; buried = b.sheet.buried; reads = b.sheet.reads }) written.drafted.only.rest ∙ ledger.rest;
    tree = written.drafted.only.tree ∙ ap (λ (t : Rooted). with_words t s'.tree.table.words) ledger.tree;
    whole = whole_then written.drafted.only ledger.whole row_number.1;
    free = ledger.free ∙ (ap (λ (l : List ℕ). l ++ map row_seen taken) free_before ∙ (append_assoc book'.free (written.row ∷ []) (map row_seen taken) ∙ ap (λ (r : ℕ). book'.free ++ r ∷ map row_seen taken) (sym seen_row)));
    held = sym (ap (λ (k : Book). k.held) written.taken) ∙ ledger.held;
    rows = sym (ap (λ (k : Book). k.rows) written.taken) ∙ ledger.rows;
    lives = λ row low high. ⊎_elim (λ (same : row_seen seen ≡ row). life_same row same) (λ (other : row_seen seen ≢ row). life_other row other low high) (cases_eq (row_seen seen) row);
    buried = λ row low high. ap (λ (k : Sheet). is_buried k.buried row) written.drafted.only.rest ∙ ledger.buried row low high;
    kept = λ row c untaken above within.
        column_other row c (seen_not_here seen taken row untaken) (within_now c within) ∙ ledger.kept row c (seen_before seen taken row untaken) above within;
    parents = λ row untaken stays.
        column_other row 0 (seen_not_here seen taken row untaken) (some_columns s.tree.table.width) ∙ ledger.parents row (seen_before seen taken row untaken) stays;
    new_parents = parent_new;
    marks = mark_stays;
  }

-- ---- a row is buried and retired

module _ {b : Before} {start : Start} {s : Sheet} {book : Book} {taken gone : List Seen} (seen : Seen) (before : IsStartOf b start) (ledger : IsLedger b s book taken gone)
    (reached : is_reached b.sheet.tree (row_seen seen) ≡ true) (stays : was_seen gone (row_seen seen) ≡ false) where
  abbrev row : ℕ
  row = row_seen seen

  abbrev sheet_buried : Sheet
  sheet_buried = after_bury s row

  abbrev book_retired : Book
  book_retired = after_retire book row b.number

  at_row : (first_row ≤ row) × (row < first_row + s.tree.rows)
  at_row =
      let at = reached_number before ledger row reached in
      (at.0, subst (λ (n : ℕ). row < first_row + n) (sym (rows_now before ledger)) at.1)

  pub may_bury : IsUnpublished b.sheet.in_flight b.sheet.published b.sheet.ended b.number → MayBury s row
  may_bury unpublished = record {
    in_flight = ap (λ (k : Sheet). k.in_flight) ledger.rest ∙ unpublished.in_flight;
    before = ap (λ (k : Sheet). k.published) ledger.rest ∙ unpublished.before;
    at = record { first = at_row.0; last = at_row.1; column = some_columns s.tree.table.width };
    live = reached_live before ledger row reached;
  }

  not_held_now : ¬ Contains (held_rows book) row
  not_held_now here =
      let listed : Contains (held_rows b.book ++ map row_seen gone) row = subst (λ (l : List ℕ). Contains l row)
      (ap (map (λ (h : StampedRow). h.row)) ledger.held ∙ (map-append (λ (h : StampedRow). h.row) b.book.held (map (stamped b.number) gone) ∙ ap (λ (l : List ℕ). held_rows b.book ++ l) (rows_stamped b.number gone))) here in
      ⊎_elim (λ (held : Contains (held_rows b.book) row). (before.kept.booked.reached row reached).not_held held)
      (λ (again : Contains (map row_seen gone) row). not_both (was_seen gone row) (listed_seen gone row again) stays)
      (Contains-append_cases (held_rows b.book) (map row_seen gone) row listed)

  pub is_out : IsOut book row
  is_out = record {
    here = let at = (before.kept.booked.reached row reached).here in (at.0, subst (λ (n : ℕ). row < first_row + n) (sym ledger.rows) at.1);
    not_free = λ here. (before.kept.booked.reached row reached).not_free (subst (λ (l : List ℕ). Contains l row) (sym ledger.free) (Contains-append_left book.free (map row_seen taken) row here));
    not_held = not_held_now;
  }

  column_stays : (r c : ℕ) → 0 < c → c < columns s.tree.table.width → column sheet_buried.tree.table r c ≡ column s.tree.table r c
  column_stays r c above within =
      ⊎_elim
      (λ (same : r ≡ row). subst (λ (k : ℕ). column sheet_buried.tree.table k c ≡ column s.tree.table k c) (sym same)
      (other_column s.tree.table.width s.tree.table.words row 0 (dead_mark row) c (λ none. absurd (omega arith))))
      (λ (other : r ≢ row). other_row s.tree.table.width s.tree.table.words row 0 (dead_mark row) r c other (some_columns s.tree.table.width) within)
      (cases_eq r row)

  parent_stays : (r : ℕ) → r ≢ row → column sheet_buried.tree.table r 0 ≡ column s.tree.table r 0
  parent_stays r other = other_row s.tree.table.width s.tree.table.words row 0 (dead_mark row) r 0 other (some_columns s.tree.table.width) (some_columns s.tree.table.width)

  buried_then : (r : ℕ) → first_row ≤ r → r < first_row + b.sheet.tree.rows → is_buried sheet_buried.buried r ≡ was_seen (gone ++ seen ∷ []) r
  buried_then r low high =
      ⊎_elim
      (λ (same : row ≡ r). ap (λ (k : ℕ). slice_index_or (set s.buried row true) k false) (sym same)
      ∙ (get_or-set_same s.buried row true false (subst (λ (n : ℕ). row < n) (sym ledger.whole.buried) at_row.1) ∙ sym (seen_last gone seen r same)))
      (λ (other : row ≢ r). get_or-set_other s.buried row r true false (λ same. other (sym same)) ∙ (ledger.buried r low high ∙ sym (seen_not_last gone seen r other)))
      (cases_eq row r)

  marked_then : (r : ℕ) → is_reached b.sheet.tree r ≡ true → was_seen (gone ++ seen ∷ []) r ≡ true → column sheet_buried.tree.table r 0 ≡ dead_mark r
  marked_then r was some =
      ⊎_elim
      (λ (same : row ≡ r). subst (λ (k : ℕ). column sheet_buried.tree.table k 0 ≡ dead_mark k) same
      (same_column s.tree.table.width s.tree.table.words row (first_row + s.tree.rows) 0 (dead_mark row) (some_columns s.tree.table.width) at_row.1 ledger.whole.words))
      (λ (other : row ≢ r). parent_stays r (λ same. other (sym same)) ∙ ledger.marks r was (sym (seen_not_last gone seen r other) ∙ some))
      (cases_eq row r)

  pub progress_gone : IsLedger b sheet_buried book_retired taken (gone ++ seen ∷ [])
  progress_gone = record {
    rest = ledger.rest;
    tree = ap (λ (t : Rooted). with_words t sheet_buried.tree.table.words) ledger.tree;
    whole = record {
      few = ledger.whole.few;
      words = length-set s.tree.table.words (base_of s.tree.table row + 0) (dead_mark row) ∙ ledger.whole.words;
      lives = ledger.whole.lives;
      buried = length-set s.buried row true ∙ ledger.whole.buried;
      cleared = ledger.whole.cleared;
      dead = ledger.whole.dead;
    };
    free = ledger.free;
    held = ap (λ (l : List StampedRow). l ++ stamped b.number seen ∷ []) ledger.held
        ∙ (append_assoc b.book.held (map (stamped b.number) gone) (stamped b.number seen ∷ []) ∙ ap (λ (l : List StampedRow). b.book.held ++ l) (sym (map_push (stamped b.number) gone seen)));
    rows = ledger.rows;
    lives = ledger.lives;
    buried = buried_then;
    kept = λ r c untaken above within. column_stays r c above (subst (λ (v : Width). c < columns v) (sym (width_now before ledger)) within) ∙ ledger.kept r c untaken above within;
    parents = λ r untaken stay. parent_stays r (λ same. seen_front_not_last gone seen r stay (sym same)) ∙ ledger.parents r untaken (seen_front gone seen r stay);
    new_parents = λ r some. parent_stays r (λ same. not_both (was_seen taken r) some (ap (was_seen taken) same ∙ reached_untaken before ledger row reached)) ∙ ledger.new_parents r some;
    marks = marked_then;
  }

-- the stamps of the rows that are held do not fall
pub in_order : {b : Before} {start : Start} {s : Sheet} {book : Book} {taken gone : List Seen} → IsStartOf b start → IsLedger b s book taken gone → All (λ (h : StampedRow). h.stamp ≤ b.number) book.held
in_order {b} {start} {s} {book} {taken} {gone} before ledger = subst (All (λ (h : StampedRow). h.stamp ≤ b.number)) (sym ledger.held)
    (All-append (λ (h : StampedRow). h.stamp ≤ b.number) b.book.held (map (stamped b.number) gone) (λ k d within. let below = before.kept.booked.stamps k d within in omega arith)
    (All-map (λ (h : StampedRow). h.stamp ≤ b.number) (stamped b.number) gone (λ k d within. omega arith)))

-- ---- words are loaded

with_reads : {b : Before} {s : Sheet} {book : Book} {taken gone : List Seen} (reads : Option ℕ) → IsLedger b s book taken gone → IsLedger b (record s { reads = reads }) book taken gone
with_reads reads ledger = record {
  rest = ledger.rest;
  tree = ledger.tree;
  whole = record { few = ledger.whole.few; words = ledger.whole.words; lives = ledger.whole.lives; buried = ledger.whole.buried; cleared = ledger.whole.cleared; dead = ledger.whole.dead };
  free = ledger.free;
  held = ledger.held;
  rows = ledger.rows;
  lives = ledger.lives;
  buried = ledger.buried;
  kept = ledger.kept;
  parents = ledger.parents;
  new_parents = ledger.new_parents;
  marks = ledger.marks;
}

-- what was loaded is not in the ledger
pub ledger_reads : {b : Before} {s s' : Sheet} {book : Book} {taken gone : List Seen} → OnlyReads s s' → IsLedger b s book taken gone → IsLedger b s' book taken gone
ledger_reads {b} {s} {s'} {book} {taken} {gone} reads ledger = subst (λ (k : Sheet). IsLedger b k book taken gone) (sym reads) (with_reads s'.reads ledger)

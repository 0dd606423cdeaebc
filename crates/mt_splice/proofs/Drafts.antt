-- A row that was drafted, and what stays.
use Rattle.mt_splice.proofs.Prelude.{◌≡◌, ◌≢◌, ◌⊎◌, ℕ, ◌+◌, ◌*◌, ◌<◌, ◌≤◌, List, length, inl, inr, sym, ap, ◌∙◌, arith, subst, ⊎_elim, get_or-set_other, get_or-set_same, set, length-set, slice_index, cases_eq, cases_lt, Width, columns, most_rows, first_row, Item, RowKind, row_words, slots_of, gaps_of, other_place, place_within, row_within, Life, Draft, New, AreDrafted, Table, column, Sheet, Rooted, IsWhole, HasDied, life_of, OnlyDrafts, no_parent, new_words, IsRowDrafted}

-- ---- one word is written

abbrev pub wrote : Width → List ℕ → ℕ → ℕ → ℕ → Table
wrote w words row i word = record { width = w; words = set words (columns w * row + i) word }

abbrev pub plain : Width → List ℕ → Table
plain w words = record { width = w; words = words }

pub other_row : (w : Width) (words : List ℕ) (row i word r c : ℕ) → r ≢ row → i < columns w → c < columns w → column (wrote w words row i word) r c ≡ column (plain w words) r c
other_row w words row i word r c other i_within c_within = get_or-set_other words (columns w * row + i) (columns w * r + c) word 0 (other_place w row r c i other c_within i_within)

pub other_column : (w : Width) (words : List ℕ) (row i word c : ℕ) → c ≢ i → column (wrote w words row i word) row c ≡ column (plain w words) row c
other_column w words row i word c other = get_or-set_other words (columns w * row + i) (columns w * row + c) word 0 (λ same. other (omega arith))

pub same_column : (w : Width) (words : List ℕ) (row rows i word : ℕ) → i < columns w → row < rows → length words ≡ columns w * rows → column (wrote w words row i word) row i ≡ word
same_column w words row rows i word within below whole = get_or-set_same words (columns w * row + i) word 0 (let inside = place_within w row rows i below within in omega arith)

-- ---- a row alone is written

width_stays : {s s' : Sheet} {row : ℕ} → OnlyDrafts s s' row → s'.tree.table.width ≡ s.tree.table.width
width_stays only = ap (λ (t : Rooted). t.table.width) only.tree

-- as many words as before
words_then : {s s' : Sheet} {row : ℕ} → OnlyDrafts s s' row → IsWhole s → length s'.tree.table.words ≡ columns s'.tree.table.width * (first_row + s.tree.rows)
words_then {s} {s'} only whole = only.size ∙ (whole.words ∙ sym (ap (λ (w : Width). columns w * (first_row + s.tree.rows)) (width_stays only)))

pub is_draft : {s s' : Sheet} {row : ℕ} → OnlyDrafts s s' row → IsWhole s → row < first_row + s.tree.rows → life_of s'.lives row ≡ Draft
is_draft {s} {s'} {row} only whole below = ap (λ (l : List Life). life_of l row) only.lives ∙ get_or-set_same s.lives row Draft New (subst (λ (n : ℕ). row < n) (sym whole.lives) below)

pub other_life : {s s' : Sheet} {row : ℕ} → OnlyDrafts s s' row → (r : ℕ) → r ≢ row → life_of s'.lives r ≡ life_of s.lives r
other_life {s} {s'} {row} only r other = ap (λ (l : List Life). life_of l r) only.lives ∙ get_or-set_other s.lives row r Draft New other

-- the table is whole still
pub whole_then : {s s' : Sheet} {row : ℕ} → OnlyDrafts s s' row → IsWhole s → row < first_row + s.tree.rows → IsWhole s'
whole_then {s} {s'} {row} only whole below = record {
  few = subst (λ (t : Rooted). t.rows ≤ most_rows) (sym only.tree) whole.few;
  words = words_then only whole ∙ sym (ap (λ (t : Rooted). columns s'.tree.table.width * (first_row + t.rows)) only.tree);
  lives = ap length only.lives ∙ (length-set s.lives row Draft ∙ (whole.lives ∙ sym (ap (λ (t : Rooted). first_row + t.rows) only.tree)));
  buried = ap (λ (k : Sheet). length k.buried) only.rest ∙ (whole.buried ∙ sym (ap (λ (t : Rooted). first_row + t.rows) only.tree));
  cleared = subst (λ (k : Sheet). k.cleared ≤ k.ended) (sym only.rest) whole.cleared;
  dead = λ r. ⊎_elim
      (λ (same : r ≡ row). subst (HasDied s'.ended s'.in_flight) (sym (ap (life_of s'.lives) same ∙ is_draft only whole below)) tt)
      (λ (other : r ≢ row). subst (HasDied s'.ended s'.in_flight) (sym (other_life only r other)) (subst (λ (k : Sheet). HasDied k.ended k.in_flight (life_of s.lives r)) (sym only.rest) (whole.dead r)))
      (cases_eq r row);
}

-- ---- all words of a row are written

-- a column of another row is none of the row's
outside : (w : Width) (row r c : ℕ) → r ≢ row → c < columns w → (columns w * r + c < columns w * row + 0) ⊎ (columns w * row + 0 + columns w ≤ columns w * r + c)
outside w row r c other within = ⊎_elim
    (λ (below : r < row). inl (omega (arith, row_within w r row below, within)))
    (λ (above : row ≤ r). inr (omega (arith, row_within w row r (omega (arith, above, other)))))
    (cases_lt r row)

pub row_drafted : (s s' : Sheet) (row : ℕ) (kind : RowKind) (items : List Item) (width : Width) (cols : ℕ) (words : List ℕ) → width ≡ s.tree.table.width → cols ≡ columns s.tree.table.width → words ≡ row_words cols (slots_of width kind) (gaps_of width kind) no_parent items
    → length words ≡ cols → AreDrafted row 0 words s s' → IsRowDrafted s s' row kind items
row_drafted s s' row kind items width cols words is_width are_cols is long drafted = record {
  only = record {
    rest = ap (λ (k : Sheet). record k { tree = s.tree; lives = s.lives }) drafted.rest;
    tree = ap (λ (k : Sheet). k.tree) drafted.rest;
    size = drafted.put.size;
    lives = ap (λ (k : Sheet). k.lives) drafted.rest;
    others = λ r c other within. at r c (slice_index s.tree.table.words (columns s.tree.table.width * r + c)) (drafted.put.others (columns s.tree.table.width * r + c) (past r c other within));
  };
  own = λ c within. at row c (slice_index (new_words s.tree.table kind items) c) (here c within ∙ ap (λ (l : List ℕ). slice_index l c) are);
}
  where
    same_width : s'.tree.table.width ≡ s.tree.table.width
    same_width = ap (λ (k : Sheet). k.tree.table.width) drafted.rest

    at : (r c word : ℕ) → slice_index s'.tree.table.words (columns s.tree.table.width * r + c) ≡ word → column s'.tree.table r c ≡ word
    at r c word there = subst (λ (w : Width). slice_index s'.tree.table.words (columns w * r + c) ≡ word) (sym same_width) there

    past : (r c : ℕ) → r ≢ row → c < columns s.tree.table.width → (columns s.tree.table.width * r + c < columns s.tree.table.width * row + 0) ⊎ (columns s.tree.table.width * row + 0 + length words ≤ columns s.tree.table.width * r + c)
    past r c other within = subst (λ (n : ℕ). (columns s.tree.table.width * r + c < columns s.tree.table.width * row + 0) ⊎ (columns s.tree.table.width * row + 0 + n ≤ columns s.tree.table.width * r + c)) (sym (long ∙ are_cols)) (outside s.tree.table.width row r c other within)

    here : (c : ℕ) → c < columns s.tree.table.width → slice_index s'.tree.table.words (columns s.tree.table.width * row + c) ≡ slice_index words c
    here c within = subst (λ (n : ℕ). slice_index s'.tree.table.words n ≡ slice_index words c) (omega arith) (drafted.put.here c (omega (arith, long, are_cols)))

    are : words ≡ new_words s.tree.table kind items
    are = is ∙ (ap (λ (n : ℕ). row_words n (slots_of width kind) (gaps_of width kind) no_parent items) are_cols ∙ ap (λ (w : Width). row_words (columns s.tree.table.width) (slots_of w kind) (gaps_of w kind) no_parent items) is_width)

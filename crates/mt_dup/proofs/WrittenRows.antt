-- The columns of one row of a copy, read one by one and written at once.
use Rattle.mt_dup.proofs.Prelude.{◌≡◌, ℕ, ◌+◌, ◌*◌, ◌<◌, ◌≤◌, ◌⊎◌, List, length, add-zero, refl, sym, ap, ◌∙◌, subst, inl, inr, arith, length-set, get_or-set_other, get_or-set_same, replicate, slice_index, slice_set, cases_eq, cases_lt, get_or-replicate, length-replicate, Width, columns, place_within, row_within, Life, New, Draft, AreDrafted, column, Rooted, Sheet, OnlyReads, IsPlace, life_of, IsFree, Pair, IsOutside, IsWritten, HasOwn, reads_on, same_tree, some_columns, one_read}

-- ---- rows that are written

pub written_width : (low high : ℕ) (s s' : Sheet) → IsWritten low high s s' → s'.tree.table.width ≡ s.tree.table.width
written_width low high s s' written = ap (λ (x : Sheet). x.tree.table.width) written.rest

pub written_rows : (low high : ℕ) (s s' : Sheet) → IsWritten low high s s' → s'.tree.rows ≡ s.tree.rows
written_rows low high s s' written = ap (λ (x : Sheet). x.tree.rows) written.rest

-- a draft may be written
pub draft_free : (cleared : ℕ) (l : Life) → l ≡ Draft → IsFree cleared l
draft_free cleared l is = subst (IsFree cleared) (sym is) tt

-- two writes, one behind the other
pub written_on : (low middle high : ℕ) (s s' s'' : Sheet) → low ≤ middle → middle ≤ high → IsWritten low middle s s' → IsWritten middle high s' s'' → IsWritten low high s s''
written_on low middle high s s' s'' some more first second = record {
  rest = second.rest ∙ ap (λ (x : Sheet). record x { tree = record x.tree { table = record x.tree.table { words = s''.tree.table.words } }; lives = s''.lives }) first.rest;
  words = λ row c outside within. second.words row c (behind row outside) (subst (λ (w : Width). c < columns w) (sym (written_width low middle s s' first)) within) ∙ first.words row c (before row outside) within;
  lives = λ row outside. second.lives row (behind row outside) ∙ first.lives row (before row outside);
  drafts = λ row from to. elim (cases_lt row middle) [ inl low' ↦ second.lives row (inl low') ∙ first.drafts row from low' | inr high' ↦ second.drafts row high' to ];
}
  where
    before : (row : ℕ) → IsOutside low high row → IsOutside low middle row
    before row (inl below) = inl below
    before row (inr above) = inr (omega arith)

    behind : (row : ℕ) → IsOutside low high row → IsOutside middle high row
    behind row (inl below) = inl (omega arith)
    behind row (inr above) = inr above

-- two writes, the second in a row of the first
pub written_in : (low high row : ℕ) (s s' s'' : Sheet) → low ≤ row → row < high → IsWritten low high s s' → IsWritten row (row + 1) s' s'' → IsWritten low high s s''
written_in low high row s s' s'' from to first second = record {
  rest = second.rest ∙ ap (λ (x : Sheet). record x { tree = record x.tree { table = record x.tree.table { words = s''.tree.table.words } }; lives = s''.lives }) first.rest;
  words = λ r c outside within. second.words r c (other r outside) (subst (λ (w : Width). c < columns w) (sym (written_width low high s s' first)) within) ∙ first.words r c outside within;
  lives = λ r outside. second.lives r (other r outside) ∙ first.lives r outside;
  drafts = drafts;
}
  where
    other : (r : ℕ) → IsOutside low high r → IsOutside row (row + 1) r
    other r (inl below) = inl (omega arith)
    other r (inr above) = inr (omega arith)

    drafts : (r : ℕ) → low ≤ r → r < high → life_of s''.lives r ≡ Draft
    drafts r above below = elim (cases_lt r row) [
      | inl before ↦ second.lives r (inl before) ∙ first.drafts r above below
      | inr up ↦ elim (cases_lt row r) [ inl behind ↦ second.lives r (inr (omega arith)) ∙ first.drafts r above below | inr here ↦ second.drafts r up (omega arith) ]
    ]

pub nothing_written : (row : ℕ) (s : Sheet) → life_of s.lives row ≡ Draft → IsWritten row (row + 1) s s
nothing_written row s draft = record {
  rest = refl;
  words = λ r c outside within. refl;
  lives = λ r outside. refl;
  drafts = λ r from to. let same : row ≡ r = omega arith in subst (λ (n : ℕ). life_of s.lives n ≡ Draft) same draft;
}

-- ---- the columns of a row, read one by one

pub record Reading (s s' : Sheet) (first row col : ℕ) (words : List ℕ) : Type 0 where
  pub reads : OnlyReads s s'
  pub size : length words ≡ columns s.tree.table.width
  pub here : slice_index words 0 ≡ first
  pub others : (c : ℕ) → 0 < c → c < col → slice_index words c ≡ column s.tree.table row c

pub none_read : (s : Sheet) (all first row col : ℕ) → all ≡ columns s.tree.table.width → col ≡ 1 → Reading s s first row col (replicate all first)
none_read s all first row col many one = record {
  reads = refl;
  size = length-replicate all first ∙ many;
  here = get_or-replicate all 0 first 0 (omega (arith, many, some_columns s.tree.table.width));
  others = λ c some below. absurd (omega arith);
}

pub read_place : (s s' : Sheet) (first row col : ℕ) (words : List ℕ) → IsPlace s.tree row 0 → Reading s s' first row col words → col < columns s.tree.table.width → IsPlace s'.tree row col
read_place s s' first row col words place so_far within =
    subst (λ (t : Rooted). IsPlace t row col) (sym (same_tree s s' so_far.reads)) (record { first = place.first; last = place.last; column = within })

pub read_next : (s s' s'' : Sheet) (first row col word : ℕ) (words : List ℕ) → Reading s s' first row col words → 0 < col → col < columns s.tree.table.width → OnlyReads s' s'' → word ≡ column s'.tree.table row col
    → Reading s s'' first row (col + 1) (slice_set words col word)
read_next s s' s'' first row col word words so_far some within more is = record {
  reads = reads_on s s' s'' so_far.reads more;
  size = length-set words col word ∙ so_far.size;
  here = get_or-set_other words col 0 word 0 (λ e. omega arith) ∙ so_far.here;
  others = others;
}
  where
    others : (c : ℕ) → 0 < c → c < col + 1 → slice_index (slice_set words col word) c ≡ column s.tree.table row c
    others c above below = elim (cases_eq c col) [
      | inl same ↦
          ap (slice_index (slice_set words col word)) same
          ∙ (get_or-set_same words col word 0 (omega (arith, so_far.size))
          ∙ (is ∙ (ap (λ (t : Rooted). column t.table row col) (same_tree s s' so_far.reads) ∙ ap (column s.tree.table row) (sym same))))
      | inr other ↦ get_or-set_other words col c word 0 other ∙ so_far.others c above (omega (arith, other))
    ]

-- ---- a row that is written at once

-- words of one row stand before those of the next
apart : (v : Width) (to row c n : ℕ) → c < columns v → n ≤ columns v → IsOutside to (to + 1) row → (columns v * row + c < columns v * to + 0) ⊎ (columns v * to + 0 + n ≤ columns v * row + c)
apart v to row c n within few (inl below) = inl (omega (arith, place_within v row to c below within))
apart v to row c n within few (inr above) = let most = row_within v to row (let next : to < row = omega arith in next) in inr (omega (arith, most))

module _ (pair : Pair) (s s' d d' : Sheet) (parent col : ℕ) (words : List ℕ) (read : Reading s s' parent pair.row col words) (past : columns s.tree.table.width ≤ col) (drafted : AreDrafted pair.to 0 words d d') where
  drafted_width : d'.tree.table.width ≡ d.tree.table.width
  drafted_width = ap (λ (x : Sheet). x.tree.table.width) drafted.rest

  column_is : (c : ℕ) → c < columns s.tree.table.width → column d'.tree.table pair.to c ≡ slice_index words c
  column_is c within =
      ap (λ (v : Width). slice_index d'.tree.table.words (columns v * pair.to + c)) drafted_width
      ∙ (ap (λ (n : ℕ). slice_index d'.tree.table.words (n + c)) (sym (add-zero (columns d.tree.table.width * pair.to)))
      ∙ drafted.put.here c (omega (arith, read.size)))

  pub own_copied : HasOwn parent pair s.tree.table d'.tree.table
  own_copied = record {
    first = column_is 0 (some_columns s.tree.table.width) ∙ read.here;
    others = λ c some within. column_is c within ∙ read.others c some (omega arith);
  }

  module _ (inside : pair.to < length d.lives) (wide : d.tree.table.width ≡ s.tree.table.width) where
    lives_are : d'.lives ≡ slice_set d.lives pair.to Draft
    lives_are = ap (λ (x : Sheet). x.lives) drafted.rest

    pub row_written : IsWritten pair.to (pair.to + 1) d d'
    row_written = record {
      rest = drafted.rest ∙ ap (λ (l : List Life). record d { tree = record d.tree { table = record d.tree.table { words = d'.tree.table.words } }; lives = l }) (sym lives_are);
      words = λ row c outside within.
          ap (λ (v : Width). slice_index d'.tree.table.words (columns v * row + c)) drafted_width
          ∙ drafted.put.others (columns d.tree.table.width * row + c) (apart d.tree.table.width pair.to row c (length words) within (omega (arith, read.size, ap columns wide)) outside);
      lives = λ row outside. ap (λ (l : List Life). life_of l row) lives_are ∙ get_or-set_other d.lives pair.to row Draft New (λ e. other row outside e);
      drafts = λ row from to. let same : pair.to ≡ row = omega arith in subst (λ (n : ℕ). life_of d'.lives n ≡ Draft) same (ap (λ (l : List Life). life_of l pair.to) lives_are ∙ get_or-set_same d.lives pair.to Draft New inside);
    }
      where
        other : (row : ℕ) → IsOutside pair.to (pair.to + 1) row → row ≡ pair.to → ⊥
        other row (inl below) e = omega arith
        other row (inr above) e = omega arith

-- a row is read word by word and written at once
pub ruleset copying = (none_read, one_read, read_place, read_next, own_copied, row_written)

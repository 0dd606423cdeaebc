-- One store of a gap word in a slot of a row that is reached: the tree keeps its rows and what stands in them.
use Rattle.mt_rows.proofs.Prelude.{◌≡◌, ◌≢◌, ℕ, suc, ◌+◌, ◌*◌, ◌<◌, ◌≤◌, List, Option, true, length, sym, ap, ◌∙◌, subst, ⊎_elim, arith, get_or-set_other, get_or-set_same, refl, slice_index, slice_set, cases_eq, Width, columns, first_row, RowKind, Gapped, Span, gap_column, row_words, row_in, slots_of, gaps_of, spans_from, Fills, other_place, place_within, some_slots_of, all_gaps_of, gap_within, length-spans_from, base_of, column, spans_by, spans_in, Levels, SameColumns, SameSpans, Tree, HasWords, IsRow, Stands, least_of, items_in, words_in, tree_on, root_of, Rooted, with_word}
use Rattle.mt_rows.proofs.FewSpans.{row_most}
use Rattle.mt_rows.proofs.Frames.{same_spans}
use Rattle.mt_rows.proofs.GapWords.{put_gap, spans_from-put_gap, other_column, gap_here, items_at-put_gap, row_words-put_gap, row_words-gap_inside}
use Rattle.mt_rows.proofs.Joins.{Shared, levels_shared}
use Rattle.mt_rows.proofs.Reached.{OnLevel, levels_from, on_level_law, one_place}
use Rattle.mt_rows.proofs.RowLaws.{row_keeps}

gap_fits : (width : Width) (row rows slot : ℕ) → slot < slots_of width Gapped → row < first_row + rows → columns width * row + gap_column (slots_of width Gapped) slot < columns width * (first_row + rows)
gap_fits width row rows slot inside in_table = place_within width row (first_row + rows) (gap_column (slots_of width Gapped) slot) in_table (gap_within width slot inside)

module _ (r : Rooted) (k slot gap : ℕ) (x : Span) (has : HasWords (tree_on true r)) (row : IsRow (tree_on true r) (suc k) x) (used : slot < length (spans_in r.table x)) where
  abbrev t : Tree
  t = tree_on true r

  abbrev slots : ℕ
  slots = slots_of t.table.width Gapped

  abbrev gaps : ℕ
  gaps = gaps_of t.table.width Gapped

  abbrev base : ℕ
  base = base_of t.table (row_in x.word)

  -- the words with this gap word
  abbrev pub gap_stored : Rooted
  gap_stored = with_word r (row_in x.word) (gap_column (slots_of r.table.width Gapped) slot) gap

  abbrev then : Tree
  then = tree_on true gap_stored

  inside : slot < slots
  inside = omega (arith, (row_most row.name))

  fits : base + gap_column slots slot < length t.table.words
  fits = omega (arith, has, gap_fits t.table.width (row_in x.word) t.rows slot inside row.name.in_table)

  -- other rows have the columns that they had
  pub others_keep : (y : Span) → row_in y.word ≢ row_in x.word → SameColumns t.table then.table (columns t.table.width) (row_in y.word)
  others_keep y other c above within =
      get_or-set_other t.table.words (base + gap_column slots slot) (base_of t.table (row_in y.word) + c) gap 0
      (other_place t.table.width (row_in x.word) (row_in y.word) c (gap_column slots slot) other within (gap_within t.table.width slot inside))

  -- and this row all but one
  pub other_gap : (c : ℕ) → c ≢ gap_column slots slot → column then.table (row_in x.word) c ≡ column t.table (row_in x.word) c
  other_gap c other = other_column slots gaps base slot gap t.table.words inside (all_gaps_of t.table.width) fits c other

  pub this_gap : column then.table (row_in x.word) (gap_column slots slot) ≡ gap
  this_gap = gap_here slots gaps base slot gap t.table.words inside (all_gaps_of t.table.width) fits

  items_put : items_in then.table Gapped x ≡ put_gap slot gap (items_in t.table Gapped x)
  items_put = items_at-put_gap slots gaps base slot gap t.table.words inside (all_gaps_of t.table.width) fits x.last

  pub spans_stay : spans_in then.table x ≡ spans_in t.table x
  spans_stay = subst (λ (k : Option RowKind). spans_by then.table k x ≡ spans_by t.table k x) (sym row.name.named)
      (ap (spans_from x.first) items_put ∙ spans_from-put_gap slot gap x.first (items_in t.table Gapped x))

  length-items : length (items_in t.table Gapped x) ≡ length (spans_in t.table x)
  length-items = subst (λ (k : Option RowKind). length (items_in t.table Gapped x) ≡ length (spans_by t.table k x)) (sym row.name.named) (sym (length-spans_from x.first (items_in t.table Gapped x)))

  words_put : words_in then.table Gapped x ≡ slice_set (words_in t.table Gapped x) (gap_column slots slot) gap
  words_put =
      let some = some_slots_of t.table.width Gapped in
      let parent : column then.table (row_in x.word) 0 ≡ column t.table (row_in x.word) 0 = other_gap 0 (λ e. omega arith) in
      (λ i. row_words (columns t.table.width) slots gaps (parent i) (items_put i))
      ∙ row_words-put_gap (columns t.table.width) slots gaps (column t.table (row_in x.word) 0) slot gap (items_in t.table Gapped x) some (all_gaps_of t.table.width) (omega (arith, length-items)) (omega (arith, length-items, (row_most row.name)))

  unused_put : (c : ℕ) → c < columns t.table.width → column then.table (row_in x.word) c ≡ slice_index (words_in then.table Gapped x) c
  unused_put c within =
      ⊎_elim
      (λ (here : c ≡ gap_column slots slot).
      ap (λ (n : ℕ). column then.table (row_in x.word) n) here
      ∙ (this_gap
      ∙ (sym (get_or-set_same (words_in t.table Gapped x) (gap_column slots slot) gap 0 (row_words-gap_inside (columns t.table.width) slots gaps (column t.table (row_in x.word) 0) slot gap (items_in t.table Gapped x) (some_slots_of t.table.width Gapped) (all_gaps_of t.table.width) (omega (arith, length-items)) (omega (arith, length-items, (row_most row.name)))))
      ∙ (ap (λ (n : ℕ). slice_index (slice_set (words_in t.table Gapped x) (gap_column slots slot) gap) n) (sym here) ∙ ap (λ (ws : List ℕ). slice_index ws c) (sym words_put)))))
      (λ (other : c ≡ gap_column slots slot → ⊥).
      other_gap c other
      ∙ (row.pivots.unused c within
      ∙ (sym (get_or-set_other (words_in t.table Gapped x) (gap_column slots slot) c gap 0 other) ∙ ap (λ (ws : List ℕ). slice_index ws c) (sym words_put))))
      (cases_eq c (gap_column slots slot))

  pub row_stays : IsRow then (suc k) x
  row_stays = record {
    name = record { named = row.name.named; in_table = row.name.in_table };
    pivots = record { fills = subst (Fills x.first (x.last + 1)) (sym spans_stay) row.pivots.fills; unused = unused_put };
    count = record { least = subst (λ (xs : List Span). least_of t (suc k) x ≤ length xs) (sym spans_stay) row.count.least };
    entries = tt;
    holes = tt;
  }

-- ---- the whole tree

module _ (r : Rooted) (h k slot gap : ℕ) (x : Span) (has : HasWords (tree_on true r)) (stands : Stands (tree_on true r) h) (on : OnLevel r.table h (root_of (tree_on true r)) (suc k) x)
    (used : slot < length (spans_in r.table x)) where
  abbrev before : Tree
  before = tree_on true r

  abbrev after : Tree
  after = tree_on true (with_word r (row_in x.word) (gap_column (slots_of r.table.width Gapped) slot) gap)

  this : IsRow before (suc k) x
  this = on_level_law before h stands (suc k) x on

  spans_and_row : (l : ℕ) (y : Span) → OnLevel r.table h (root_of before) l y → SameSpans before.table after.table y × IsRow after l y
  spans_and_row l y at = ⊎_elim
      (λ (same : row_in y.word ≡ row_in x.word). (let one = one_place before h stands l (suc k) y x at on same in
      subst (λ (p : ℕ × Span). SameSpans before.table after.table p.1 × IsRow after p.0 p.1) (λ i. (sym one.0 i, sym one.1 i))
      (spans_stay r k slot gap x has this used, row_stays r k slot gap x has this used)))
      (λ (other : row_in y.word ≡ row_in x.word → ⊥). (let columns_stay = others_keep r k slot gap x has this used y other in
      (same_spans before.table after.table y refl columns_stay, row_keeps before after.table.words r.root l y columns_stay (on_level_law before h stands l y at))))
      (cases_eq (row_in y.word) (row_in x.word))

  pub all_spans_stay : Levels (Shared before.table after.table) before.table h (root_of before)
  all_spans_stay = levels_from (Shared before.table after.table) before.table h (root_of before) h 0 (omega arith) (λ l y low at. (spans_and_row l y at).0)

  pub still_stands : Stands after h
  still_stands = record {
    low = stands.low;
    rows = levels_shared (IsRow after) before.table after.table h (root_of before) all_spans_stay
        (levels_from (IsRow after) before.table h (root_of before) h 0 (omega arith) (λ l y low at. (spans_and_row l y at).1));
  }

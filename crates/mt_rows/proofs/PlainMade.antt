-- Rows that are made of words: which of them are live, and how many.
use Rattle.mt_rows.proofs.Prelude.{◌≡◌, ◌⊎◌, ℕ, ◌+◌, ◌*◌, ◌/◌, ◌<◌, ◌≤◌, ◌==◌, List, ◌++◌, Bool, true, false, length, map, take, refl, sym, ap, ◌∙◌, inl, inr, arith, slice_index_or, replicate, nat_lt, if◌then◌else◌, get_or-replicate, length-replicate, length-append, take-replicate, mul-div_cancel_left, mul-le-mul_left, mul-add, Width, columns, first_row, some_columns, Fate, New, Live, Buried, State, tally, reached_in, Sheet, life_of, is_reached, life_at, life_in, buried_in, past_of, fate_of, sheet_of, IsPlainState, new_sheet, tree_made, IsMadeOf, Listed, Fated, enlivened}
use Rattle.mt_rows.specs.declared.rows.Life.TheVariants as lives
use Rattle.mt_rows.specs.Laws as laws
use Rattle.mt_rows.proofs.PlainFates.{life_told}
use Rattle.mt_rows.proofs.PlainPlant.{enlivened_length, enlivened_fate, enlivened_or_kept, enlivened_buried, none_buried}

pub lawful_tree : (t : laws.Tree) → laws.IsLawful t → laws.IsTree t
lawful_tree t (inl empty) = inl empty
lawful_tree t (inr tree) = inr (tree.0, tree.1)

-- with other words, another root word and other fates
abbrev pub made : State → Listed → ℕ → Fated → State
made p words root f = record p { words = words; root = root; fates = f }

module _ (p : State) (words : Listed) (f : Fated) (width : Width) (rows root : ℕ) (w : List ℕ) (plain : IsPlainState p) (is : sheet_of p ≡ new_sheet width rows) (wide : length w ≡ columns width * rows)
    (put : words.items ≡ take (columns width * first_row) p.words.items ++ w) (settles : f.items ≡ enlivened p.fates.items (reached_in (record { width = width; words = words.items }) root))
    (counted : f.opened ≡ length (reached_in (record { width = width; words = words.items }) root)) where
  abbrev after_words : State
  after_words = made p words root f

  abbrev reached : List ℕ
  reached = reached_in (record { width = p.width; words = words.items }) root

  rows_are : p.rows ≡ rows
  rows_are = ap (λ (s : Sheet). s.tree.rows) is

  width_is : p.width ≡ width
  width_is = ap (λ (s : Sheet). s.tree.table.width) is

  rows_counted : rows ≡ length w / columns width
  rows_counted = sym (mul-div_cancel_left rows (some_columns width)) ∙ ap (λ (n : ℕ). n / columns width) (sym wide)

  words_are : words.items ≡ replicate (columns width * first_row) 0 ++ w
  words_are =
      let before : columns width * first_row ≤ columns width * (first_row + rows) = mul-le-mul_left (columns width) (let low : first_row ≤ first_row + rows = omega arith in low) in
      put ∙ ap (λ (l : List ℕ). l ++ w) (ap (take (columns width * first_row)) (ap (λ (s : Sheet). s.tree.table.words) is) ∙ take-replicate (columns width * first_row) (columns width * (first_row + rows)) 0 before)

  words_long : length words.items ≡ columns p.width * (first_row + p.rows)
  words_long =
      let sum : length words.items ≡ columns width * (first_row + rows) =
      ap (λ (l : List ℕ). length l) words_are
      ∙ (length-append (replicate (columns width * first_row) 0) w
      ∙ ((λ i. length-replicate {A = ℕ} (columns width * first_row) 0 i + wide i) ∙ sym (mul-add (columns width) first_row rows))) in
      sum ∙ (λ i. columns (sym width_is i) * (first_row + sym rows_are i))

  fates_are : f.items ≡ enlivened p.fates.items reached
  fates_are = settles ∙ ap (λ (v : Width). enlivened p.fates.items (reached_in (record { width = v; words = words.items }) root)) (sym width_is)

  -- ---- before the first call no row is live, and none is buried

  none_ended : p.ended ≡ 0
  none_ended = ap (λ (s : Sheet). s.ended) is

  idle : p.in_flight ≡ false
  idle = ap (λ (s : Sheet). s.in_flight) is

  not_live : (row : ℕ) → fate_of p row ≡ Live → ⊥
  not_live row = plain.fresh row none_ended idle (ap (λ (s : Sheet). s.tree.root) is)

  -- ---- what is made

  none_reached : root ≡ 0 → enlivened p.fates.items reached ≡ p.fates.items
  none_reached empty = ap (λ (r : ℕ). enlivened p.fates.items (reached_in (record { width = p.width; words = words.items }) r)) empty

  buried_stays : (row call : ℕ) → slice_index_or f.items row New ≡ Buried call → fate_of p row ≡ Buried call
  buried_stays row call at = by (enlivened_or_kept reached p.fates.items row)
    where
      same : slice_index_or f.items row New ≡ slice_index_or (enlivened p.fates.items reached) row New
      same = ap (λ (l : List Fate). slice_index_or l row New) fates_are

      by : (slice_index_or (enlivened p.fates.items reached) row New ≡ Live) ⊎ (slice_index_or (enlivened p.fates.items reached) row New ≡ fate_of p row) → fate_of p row ≡ Buried call
      by (inl live) = let e = same in absurd (cc)
      by (inr kept) = sym kept ∙ (sym same ∙ at)

  pub made_plain : IsPlainState after_words
  made_plain = record {
    few = plain.few;
    words = words_long;
    fates = ap (λ (l : List Fate). length l) fates_are ∙ (enlivened_length reached p.fates.items ∙ plain.fates);
    cleared = plain.cleared;
    room = plain.room;
    calm = plain.calm;
    buried = λ row call at. plain.buried row call (buried_stays row call at);
    fresh = λ row first idle empty alive. not_live row (sym (ap (λ (l : List Fate). slice_index_or l row New) (fates_are ∙ none_reached empty)) ∙ alive);
  }

  tree_is : (sheet_of after_words).tree ≡ tree_made width root w
  tree_is = λ i. record { rows = (rows_are ∙ rows_counted) i; table = record { width = width_is i; words = words_are i }; root = root }

  buried_is : map (buried_in (past_of p)) f.items ≡ replicate (first_row + length w / columns width) false
  buried_is =
      ap (map (buried_in (past_of p))) fates_are
      ∙ (enlivened_buried (past_of p) reached p.fates.items (none_buried p plain idle)
      ∙ (ap (λ (s : Sheet). s.buried) is ∙ ap (λ (n : ℕ). replicate (first_row + n) false) rows_counted))

  was_new : (row : ℕ) → row < first_row + p.rows → life_in (past_of p) (fate_of p row) ≡ lives.New
  was_new row within =
      sym (life_told p row)
      ∙ (ap (λ (s : Sheet). life_of s.lives row) is ∙ get_or-replicate (first_row + rows) row lives.New lives.New (let same = rows_are in omega arith))

  made_life : (row : ℕ) → row < first_row + p.rows → life_of (sheet_of after_words).lives row ≡ (if is_reached (sheet_of after_words).tree row then lives.Live else lives.New)
  made_life row within =
      life_at (past_of p) f.items row
      ∙ (ap (λ (l : List Fate). life_in (past_of p) (slice_index_or l row New)) fates_are
      ∙ (ap (life_in (past_of p)) (enlivened_fate reached p.fates.items row (let size = plain.fates in omega arith))
      ∙ by (nat_lt 0 (tally (λ (r : ℕ). r == row) reached))))
    where
      by : (b : Bool) → life_in (past_of p) (if b then Live else fate_of p row) ≡ (if b then lives.Live else lives.New)
      by true = refl
      by false = was_new row within

  pub made_is : IsMadeOf width root w (sheet_of after_words)
  made_is = record {
    rest = λ i. record ((is ∙ ap (new_sheet width) rows_counted) i) { tree = tree_is i; lives = (sheet_of after_words).lives; buried = buried_is i; opened = f.opened };
    lives = λ kind lawful row first within. made_life row within;
    opened = λ kind lawful. counted ∙ ap (λ (v : Width). length (reached_in (record { width = v; words = words.items }) root)) (sym width_is);
  }

-- One store in a slot of a row that is reached: what stands on the levels of the tree then.
use Rattle.mt_rows.proofs.Prelude.{◌≡◌, ℕ, zero, suc, ◌+◌, ◌<◌, ◌≤◌, ◌==◌, List, ◌∷◌, ◌++◌, Bool, false, length, refl, sym, ap, ◌∙◌, subst, arith, append_assoc, eq-eqb, AllByRecursion, eqb-false, slice_get_within, all_map, all_front, all_back, all_join, get_parts, row_in, Span, Fills, spans_in, root_span, expand, level, one_if, tally, times, is_row_of, SameSpans, Tree, HasWords, IsRow, Stands, top_of, root_of, IsSlotAt, with_slot, with_child}
use Rattle.mt_rows.proofs.Lists.{tally-append, expand-append, Filled, expand_fills}
use Rattle.mt_rows.proofs.Joins.{Shared, expand_shared}
use Rattle.mt_rows.proofs.Once.{once, tally_nowhere}
use Rattle.mt_rows.proofs.Frames.{same_spans}
use Rattle.mt_rows.proofs.Heights.{Upper, times_upper, levels_upper, level_rows, level_shared, upper_map, upper_both, upper_shared, upper_nowhere, times_split, level_fills, all_both}
use Rattle.mt_rows.proofs.SlotWords.{put_span, put_span_at}
use Rattle.mt_rows.proofs.RowLaws.{row_keeps, others_keep, spans_put}

-- a store of a word in a slot of a row that stands so many levels below the root, and `low` levels above the leaves
pub record Store : Type 0 where
  pub tree : Tree
  pub height : ℕ
  pub low : ℕ
  pub depth : ℕ
  pub slot : ℕ
  pub word : ℕ
  pub row : Span
  pub child : Span
  pub has : HasWords tree
  pub stands : Stands tree height
  pub levels : height ≡ depth + low
  pub at : IsSlotAt tree depth row slot child

module _ (s : Store) where
  abbrev t : Tree
  t = s.tree

  abbrev pub after_store : Tree
  after_store = with_slot s.tree s.low s.row s.slot s.word

  abbrev child' : Span
  child' = with_child s.child s.word

  -- the row that is written
  abbrev pub is_written : ℕ → Span → Bool
  is_written = is_row_of (row_in s.row.word)

  abbrev here : List Span
  here = level t.table s.depth (root_of t)

  -- another row than the one that is written
  abbrev pub IsOther : ℕ → Span → Type 0
  IsOther n y = is_written n y ≡ false

  level_laws : AllByRecursion (IsRow t s.low) (s.at.front ++ (s.row ∷ s.at.back))
  level_laws = subst (AllByRecursion (IsRow t s.low)) s.at.stands (level_rows (IsRow t) t.table s.depth s.low s.height (root_of t) s.levels s.stands.rows)

  pub row_law : IsRow t s.low s.row
  row_law = (all_back (IsRow t s.low) s.at.front (s.row ∷ s.at.back) level_laws).0

  pub used : s.slot < length (spans_in t.table s.row)
  used = slice_get_within (spans_in t.table s.row) s.slot s.child s.at.holds

  -- ---- the row is reached just here

  is_here : one_if (row_in s.row.word == row_in s.row.word) ≡ 1
  is_here = ap one_if (eq-eqb (row_in s.row.word) (row_in s.row.word) refl)

  pub counted : times_upper is_written t.table s.depth s.low (root_of t) + times is_written t.table s.low here ≤ 1
  counted =
      let one = once t s.height (row_in s.row.word) (root_span t.table t.root) s.stands.rows (refl, omega arith, refl) in
      let split = times_split is_written t.table s.depth s.low s.height (root_of t) s.levels in
      omega arith

  pub tally_here : tally (is_written s.low) here ≡ tally (is_written s.low) s.at.front + (1 + tally (is_written s.low) s.at.back)
  tally_here =
      let parts = ap (tally (is_written s.low)) s.at.stands ∙ tally-append (is_written s.low) s.at.front (s.row ∷ s.at.back) in
      let one = is_here in
      omega arith

  here_le : (k : ℕ) → tally (is_written k) here ≤ times is_written t.table k here
  here_le zero = omega arith
  here_le (suc k) = omega arith

  pub upper_other : Upper IsOther t.table s.depth s.low (root_of t)
  upper_other = let all = counted in let mine = tally_here in let le = here_le s.low in upper_nowhere is_written t.table s.depth s.low (root_of t) (omega arith)

  pub front_other : AllByRecursion (IsOther s.low) s.at.front
  front_other = let all = counted in let mine = tally_here in let le = here_le s.low in tally_nowhere (is_written s.low) s.at.front (omega arith)

  pub back_other : AllByRecursion (IsOther s.low) s.at.back
  back_other = let all = counted in let mine = tally_here in let le = here_le s.low in tally_nowhere (is_written s.low) s.at.back (omega arith)

  -- ---- what other rows keep

  pub others_same : (n : ℕ) (y : Span) → IsOther n y → SameSpans t.table after_store.table y
  others_same n y other = same_spans t.table after_store.table y refl (others_keep t s.low s.slot s.word s.row s.has row_law used y (eqb-false (row_in y.word) (row_in s.row.word) other))

  pub others_laws : (n : ℕ) (y : Span) → IsOther n y → IsRow t n y → IsRow after_store n y
  others_laws n y other law = row_keeps t after_store.table.words t.root n y (others_keep t s.low s.slot s.word s.row s.has row_law used y (eqb-false (row_in y.word) (row_in s.row.word) other)) law

  pub upper_same : Upper (Shared t.table after_store.table) t.table s.depth s.low (root_of t)
  upper_same = upper_map IsOther (Shared t.table after_store.table) t.table others_same s.depth s.low (root_of t) upper_other

  pub upper_laws : Upper (IsRow after_store) after_store.table s.depth s.low (root_of after_store)
  upper_laws = upper_shared (IsRow after_store) t.table after_store.table s.depth s.low (root_of t) upper_same
      (upper_both IsOther (IsRow t) (IsRow after_store) t.table others_laws s.depth s.low (root_of t) upper_other (levels_upper (IsRow t) t.table s.depth s.low s.height (root_of t) s.levels s.stands.rows))

  pub level_same : level after_store.table s.depth (root_of after_store) ≡ here
  level_same = level_shared t.table after_store.table s.depth s.low (root_of t) upper_same

  -- ---- the row itself

  pub parts : (front : List Span) × (back : List Span) × (spans_in t.table s.row ≡ front ++ (s.child ∷ back)) × (length front ≡ s.slot)
  parts = get_parts (spans_in t.table s.row) s.slot s.child s.at.holds

  pub row_before : spans_in t.table s.row ≡ parts.0 ++ (s.child ∷ parts.1)
  row_before = parts.2

  pub row_after : spans_in after_store.table s.row ≡ parts.0 ++ (child' ∷ parts.1)
  row_after = spans_put t s.low s.slot s.word s.row s.has row_law used ∙ (ap (put_span s.slot s.word) parts.2 ∙ put_span_at s.slot s.word parts.0 parts.1 s.child parts.3)

  -- ---- the level below

  abbrev pub front_below : List Span
  front_below = expand t.table s.at.front ++ parts.0

  abbrev pub back_below : List Span
  back_below = parts.1 ++ expand t.table s.at.back

  regroup : (f b : List Span) (x : Span) → f ++ ((parts.0 ++ (x ∷ parts.1)) ++ b) ≡ (f ++ parts.0) ++ (x ∷ (parts.1 ++ b))
  regroup f b x = simp append_assoc

  pub below_before : expand t.table here ≡ front_below ++ (s.child ∷ back_below)
  below_before =
      ap (expand t.table) s.at.stands ∙ (expand-append t.table s.at.front (s.row ∷ s.at.back)
      ∙ (ap (λ (xs : List Span). expand t.table s.at.front ++ (xs ++ expand t.table s.at.back)) row_before ∙ regroup (expand t.table s.at.front) (expand t.table s.at.back) s.child))

  shared : (xs : List Span) → AllByRecursion (IsOther s.low) xs → expand after_store.table xs ≡ expand t.table xs
  shared xs other = expand_shared t.table after_store.table xs (all_map (IsOther s.low) (SameSpans t.table after_store.table) (others_same s.low) xs other)

  pub below_after : expand after_store.table (level after_store.table s.depth (root_of after_store)) ≡ front_below ++ (child' ∷ back_below)
  below_after =
      ap (expand after_store.table) (level_same ∙ s.at.stands) ∙ (expand-append after_store.table s.at.front (s.row ∷ s.at.back)
      ∙ ((λ i. shared s.at.front front_other i ++ (row_after i ++ shared s.at.back back_other i)) ∙ regroup (expand t.table s.at.front) (expand t.table s.at.back) child'))

  -- what the rows of the level below cover
  pub below_fills : Fills 0 (top_of t + 1) (front_below ++ (s.child ∷ back_below))
  below_fills =
      let fills = level_fills t s.depth s.low 0 (top_of t + 1) (root_of t) (levels_upper (IsRow t) t.table s.depth s.low s.height (root_of t) s.levels s.stands.rows) (refl, omega arith, refl) in
      let rows = level_rows (IsRow t) t.table s.depth s.low s.height (root_of t) s.levels s.stands.rows in
      subst (Fills 0 (top_of t + 1)) below_before (expand_fills t.table 0 (top_of t + 1) here (all_map (IsRow t s.low) (Filled t.table) (λ x row. row.pivots.fills) here rows) fills)

  -- the laws of the level, where the row keeps its own
  pub level_laws_after : IsRow after_store s.low s.row → AllByRecursion (IsRow after_store s.low) (level after_store.table s.depth (root_of after_store))
  level_laws_after law =
      subst (AllByRecursion (IsRow after_store s.low)) (sym (level_same ∙ s.at.stands))
      (all_join (IsRow after_store s.low) s.at.front (s.row ∷ s.at.back)
      (all_both (IsOther s.low) (IsRow t s.low) (IsRow after_store s.low) (others_laws s.low) s.at.front front_other (all_front (IsRow t s.low) s.at.front (s.row ∷ s.at.back) level_laws))
      (law, all_both (IsOther s.low) (IsRow t s.low) (IsRow after_store s.low) (others_laws s.low) s.at.back back_other (all_back (IsRow t s.low) s.at.front (s.row ∷ s.at.back) level_laws).1))

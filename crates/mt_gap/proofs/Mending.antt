-- Gap words mended from the leaf of an index upwards, one row a level.
use Rattle.mt_gap.proofs.Prelude.{◌≡◌, ◌≢◌, ℕ, zero, suc, ◌+◌, ◌<◌, ◌≤◌, List, [], ◌∷◌, ◌++◌, Bool, true, false, nat_le, max, length, refl, sym, ap, ◌∙◌, subst, ⊎_elim, inl, inr, arith, append-nil, ◌⊎◌, AllByRecursion, cases_Bool, cases_eq, leb-false, leb-true, Gapped, Span, gap_column, row_in, slots_of, Fills, longest_in, fills_le, gap_within, PathStep, step_in, slot_for, rows_at, row_of, step_of, step, place, lawful, child, slot_used, rows_fill, covers, GapsFromBut, KeepsGaps, HasGaps, GapLawBut, Tree, HasWords, IsRow, Stands, GapLaw, GapsFrom, kind_on, longest_below, top_of, expand, level, Levels, tree_on, root_of, Rooted, with_word, Table, column, spans_in, spans_by, row_most, others_keep, other_gap, this_gap, all_spans_stay, levels_lower, Shared, levels_front, levels_back, levels_shared, levels_map, longest_none, longest_below-append, levels_from, IsOneOf, OnLevel, on_level_law, one_place, one_of_parts, levels_at, covers_it, Child, children_in, children_by, longest_gap, told_by}
use Rattle.mt_gap.proofs.ChildLists.{spans, GapIs, row_gaps, spans_of_row}
use Rattle.mt_gap.proofs.SlotMended.{but_stays, law_stays, slot_mended, law_beside}

-- The law of gaps may fail in the slots that cover the index, but in no row that stands up to so many levels above the leaves.
pub record IsMendedUpTo (index done : ℕ) (t : Tree) (h : ℕ) (x : Span) : Type 0 where
  pub beside : GapLawBut index t h x
  pub done_there : covers index x ≡ true → h ≤ done → GapLaw t h x

-- ---- what a row tells

gaps_tell : (t : Table) (h : ℕ) (xs : List Child) → AllByRecursion (GapIs t h) xs → longest_gap xs ≡ longest_below t h (spans xs)
gaps_tell t h [] gaps = sym (longest_none t h)
gaps_tell t h (x ∷ xs) gaps = (λ i. max (gaps.0 i) (gaps_tell t h xs gaps.1 i)) ∙ sym (longest_below-append t h (x.span ∷ []) (spans xs))

pub child_tells : (r : Rooted) (k index : ℕ) (c : Span) → IsRow (tree_on true r) k c → GapLaw (tree_on true r) k c → told_by (kind_on true k) r.table (step_in r.table c index) ≡ longest_below r.table k (c ∷ [])
child_tells r zero index c row law =
    subst (λ (l : List Span). longest_in l ≡ longest_in (spans_in r.table c ++ [])) (ap (λ k. spans_by r.table k c) row.name.named) (ap longest_in (sym (append-nil (spans_in r.table c))))
child_tells r (suc k) index c row law =
    subst (λ (l : List Child). longest_gap l ≡ longest_below r.table k (spans_in r.table c ++ [])) (ap (λ j. children_by r.table j c) row.name.named)
    (gaps_tell r.table k (children_in r.table c) (row_gaps r.table k c row.name.named law)
    ∙ ap (longest_below r.table k) (spans_of_row r.table c ∙ sym (append-nil (spans_in r.table c))))

-- ---- rows of a level

pub begins_at : (lo hi : ℕ) (xs : List Span) (y : Span) → Fills lo hi xs → IsOneOf y xs → (lo ≤ y.first) × (y.last < hi)
begins_at lo hi [] y fills one = absurd one
begins_at lo hi (x ∷ xs) y fills (inl same) =
    let first : y.first ≡ x.first = ap (λ (z : Span). z.first) same in
    let last : y.last ≡ x.last = ap (λ (z : Span). z.last) same in
    let begins = fills.0 in let rest = fills_le (x.last + 1) hi xs fills.2 in (omega arith, omega arith)
begins_at lo hi (x ∷ xs) y fills (inr behind) = let rest = begins_at (x.last + 1) hi xs y fills.2 behind in let from = rest.0 in let order = fills.1 in (omega arith, rest.1)

-- no two rows of a level cover an index
pub one_over : (lo hi index : ℕ) (xs : List Span) (x y : Span) → Fills lo hi xs → IsOneOf x xs → IsOneOf y xs → x.first ≤ index → index ≤ x.last → y.first ≤ index → index ≤ y.last → x ≡ y
one_over lo hi index [] x y fills one_x one_y from_x to_x from_y to_y = absurd one_x
one_over lo hi index (z ∷ xs) x y fills (inl same_x) (inl same_y) from_x to_x from_y to_y = same_x ∙ sym same_y
one_over lo hi index (z ∷ xs) x y fills (inl same_x) (inr behind_y) from_x to_x from_y to_y =
    let last : x.last ≡ z.last = ap (λ (s : Span). s.last) same_x in let after = (begins_at (z.last + 1) hi xs y fills.2 behind_y).0 in absurd (omega arith)
one_over lo hi index (z ∷ xs) x y fills (inr behind_x) (inl same_y) from_x to_x from_y to_y =
    let last : y.last ≡ z.last = ap (λ (s : Span). s.last) same_y in let after = (begins_at (z.last + 1) hi xs x fills.2 behind_x).0 in absurd (omega arith)
one_over lo hi index (z ∷ xs) x y fills (inr behind_x) (inr behind_y) from_x to_x from_y to_y = one_over (z.last + 1) hi index xs x y fills.2 behind_x behind_y from_x to_x from_y to_y

pub covers_is : (index : ℕ) (y : Span) → covers index y ≡ true → (y.first ≤ index) × (index ≤ y.last)
covers_is index y is = elim (cases_Bool (nat_le y.first index)) [
  | inl from ↦ (leb-true y.first index from, leb-true index y.last (let rest : nat_le index y.last ≡ true = (rw (← is, from) refl) in rest))
  | inr not ↦ absurd (let no : false ≡ true = (rw (← is, not) refl) in cc)
]

covers_not : (index : ℕ) (y : Span) → covers index y ≡ false → (y.last + 1 ≤ index) ⊎ (index < y.first)
covers_not index y is = elim (cases_Bool (nat_le y.first index)) [
  | inl from ↦ inl (let past = leb-false index y.last (let rest : nat_le index y.last ≡ false = (rw (← is, from) refl) in rest) in omega arith)
  | inr not ↦ inr (leb-false y.first index not)
]

-- ---- what holds of all rows, at one and below one

of_one : (P : ℕ → Span → Type 0) (t : Table) (k : ℕ) (ys : List Span) (y : Span) → IsOneOf y ys → Levels P t k (expand t ys) → Levels P t k (spans_in t y)
of_one P t k [] y one rows = absurd one
of_one P t k (z ∷ ys) y (inl same) rows = subst (λ (s : Span). Levels P t k (spans_in t s)) (sym same) (levels_front P t k (spans_in t z) (expand t ys) rows)
of_one P t k (z ∷ ys) y (inr behind) rows = of_one P t k ys y behind (levels_back P t k (spans_in t z) (expand t ys) rows)

pub levels_below : (P : ℕ → Span → Type 0) (t : Table) (h k : ℕ) (xs : List Span) (y : Span) → Levels P t h xs → OnLevel t h xs (suc k) y → Levels P t k (spans_in t y)
levels_below P t h k xs y rows on = of_one P t k (level t on.depth xs) y on.one (levels_lower P t on.depth (suc k) h xs on.height rows).1

weaker : (index : ℕ) (t : Table) (k row slot : ℕ) (xs : List Span) → GapsFrom t k row slot xs → GapsFromBut index t k row slot xs
weaker index t k row slot [] law = tt
weaker index t k row slot (x ∷ xs) law = ((λ none. law.0), weaker index t k row (slot + 1) xs law.1)

-- ---- before and after

pub begun_mending : (is_new : ℕ → Bool) (index h : ℕ) (t : Tree) → Levels (KeepsGaps is_new index t) t.table h (root_of t) → Levels (IsMendedUpTo index 0 t) t.table h (root_of t)
begun_mending is_new index h t rows = levels_map (KeepsGaps is_new index t) (IsMendedUpTo index 0 t) t.table (λ l y keeps. record { beside = keeps.beside; done_there = λ over low. at_leaf l y low }) h (root_of t) rows
  where
    at_leaf : (l : ℕ) (y : Span) → l ≤ 0 → GapLaw t l y
    at_leaf zero y low = tt
    at_leaf (suc l) y low = absurd (omega arith)

pub all_mended : (r : Rooted) (index h : ℕ) → Stands (tree_on true r) h → Levels (IsMendedUpTo index h (tree_on true r)) r.table h (root_of (tree_on true r)) → HasGaps (tree_on true r)
all_mended r index h stands rows = inr (h, stands, levels_from (GapLaw (tree_on true r)) r.table h (root_of (tree_on true r)) h 0 (omega arith) (λ l y low on. law l y low on))
  where
    law : (l : ℕ) (y : Span) → l ≤ h → OnLevel r.table h (root_of (tree_on true r)) l y → GapLaw (tree_on true r) l y
    law zero y low on = tt
    law (suc l) y low on =
        let mended = levels_at (IsMendedUpTo index h (tree_on true r)) r.table h (suc l) (root_of (tree_on true r)) y rows on in
        let row = on_level_law (tree_on true r) h stands (suc l) y on in
        elim (cases_Bool (covers index y)) [
          | inl over ↦ mended.done_there over low
          | inr beside ↦ law_beside r.table l index (row_in y.word) y.first (y.last + 1) (spans_in r.table y) row.pivots.fills (covers_not index y beside) mended.beside
        ]

-- ---- one row more

module _ (r : Rooted) (h : ℕ) (has : HasWords (tree_on true r)) (stands : Stands (tree_on true r) h) (index d k : ℕ) (within : index ≤ top_of (tree_on true r)) (high : h ≡ d + suc k) where
  abbrev t : Tree
  t = tree_on true r

  abbrev x : Span
  x = row_of t d index

  abbrev below_x : Span
  below_x = row_of t (suc d) index

  abbrev slot : ℕ
  slot = slot_for (spans_in r.table x) index

  pub on : OnLevel r.table h (root_of t) (suc k) x
  on = record { depth = d; height = high; one = (let at = place t h stands index d within (omega arith) in one_of_parts (rows_at t d) at.front at.back x at.parts) }

  pub is_step : step_of t d index ≡ step_in r.table x index
  is_step = step t h stands index d within (omega arith)

  pub is_used : slot < length (spans_in r.table x)
  is_used = subst (λ (s : PathStep). s.slot < length (spans_in r.table x)) is_step (slot_used t h stands index d within (omega arith))

  x_over : (x.first ≤ index) × (index ≤ x.last)
  x_over = let at = place t h stands index d within (omega arith) in (at.from, at.to)

  child_over : (below_x.first ≤ index) × (index ≤ below_x.last)
  child_over = let at = place t h stands index (suc d) within (omega arith) in (at.from, at.to)

  child_on : OnLevel r.table h (root_of t) k below_x
  child_on = record { depth = suc d; height = omega arith; one = (let at = place t h stands index (suc d) within (omega arith) in one_of_parts (rows_at t (suc d)) at.front at.back below_x at.parts) }

  module _ (mended : Levels (IsMendedUpTo index k t) r.table h (root_of t)) where
    -- what is told is the longest hole below the slot
    pub told : told_by (kind_on true k) r.table (step_of t (suc d) index) ≡ longest_below r.table k (below_x ∷ [])
    told =
        ap (told_by (kind_on true k) r.table) (step t h stands index (suc d) within (omega arith))
        ∙ child_tells r k index below_x (lawful t h stands index (suc d) k within (omega arith))
        ((levels_at (IsMendedUpTo index k t) r.table h k (root_of t) below_x mended child_on).done_there (covers_it index below_x child_over.0 child_over.1) (omega arith))

    module _ (gap : ℕ) (is : gap ≡ longest_below r.table k (below_x ∷ [])) where
      abbrev r' : Rooted
      r' = with_word r (row_in x.word) (gap_column (slots_of r.table.width Gapped) slot) gap

      abbrev t' : Tree
      t' = tree_on true r'

      x_row : IsRow t (suc k) x
      x_row = on_level_law t h stands (suc k) x on

      shared : Levels (Shared r.table r'.table) r.table h (root_of t)
      shared = all_spans_stay r h k slot gap x has stands on is_used

      x_law : GapsFrom r'.table k (row_in x.word) 0 (spans_in r.table x)
      x_law =
          let at = child t h stands index d within (omega arith) in
          slot_mended r.table r'.table.words k index (row_in x.word) x.first (x.last + 1) (spans_in r.table x) below_x slot at at.slot
          (λ j other. other_gap r k slot gap x has x_row is_used (gap_column (slots_of r.table.width Gapped) j) (λ e. other (omega arith)))
          (this_gap r k slot gap x has x_row is_used ∙ is)
          (levels_below (Shared r.table r'.table) r.table h k (root_of t) x shared on)
          (levels_at (IsMendedUpTo index k t) r.table h (suc k) (root_of t) x mended on).beside

      x_mended : IsMendedUpTo index (suc k) t' (suc k) x
      x_mended =
          let same : spans_in r'.table x ≡ spans_in r.table x = levels_at (Shared r.table r'.table) r.table h (suc k) (root_of t) x shared on in
          let law = subst (GapsFrom r'.table k (row_in x.word) 0) (sym same) x_law in
          record { beside = weaker index r'.table k (row_in x.word) 0 (spans_in r'.table x) law; done_there = λ over low. law }

      other_mended : (l : ℕ) (y : Span) → OnLevel r.table h (root_of t) l y → row_in y.word ≢ row_in x.word → IsMendedUpTo index (suc k) t' l y
      unfolding on
      other_mended zero y at other = record { beside = tt; done_there = λ over low. tt }
      other_mended (suc l) y at other =
          let was = levels_at (IsMendedUpTo index k t) r.table h (suc l) (root_of t) y mended at in
          let same : spans_in r'.table y ≡ spans_in r.table y = levels_at (Shared r.table r'.table) r.table h (suc l) (root_of t) y shared at in
          let below_y = levels_below (Shared r.table r'.table) r.table h l (root_of t) y shared at in
          let few = row_most (on_level_law t h stands (suc l) y at).name in
          let columns_stay = others_keep r k slot gap x has x_row is_used y other in
          let gaps_stay : (j : ℕ) → 0 ≤ j → j < 0 + length (spans_in r.table y) → column r'.table (row_in y.word) (gap_column (slots_of r.table.width Gapped) j) ≡ column r.table (row_in y.word) (gap_column (slots_of r.table.width Gapped) j)
          = λ j from to. columns_stay (gap_column (slots_of r.table.width Gapped) j) (omega arith) (gap_within r.table.width j (omega arith)) in
          record {
            beside = subst (GapsFromBut index r'.table l (row_in y.word) 0) (sym same) (but_stays r.table r'.table.words l index (row_in y.word) 0 (spans_in r.table y) gaps_stay below_y was.beside);
            done_there = λ over low. subst (GapsFrom r'.table l (row_in y.word) 0) (sym same) (law_stays r.table r'.table.words l index (row_in y.word) 0 (spans_in r.table y) gaps_stay below_y
                (was.done_there over (lower l y at other over low)));
          }
        where
          lower : (l : ℕ) (y : Span) → OnLevel r.table h (root_of t) (suc l) y → row_in y.word ≢ row_in x.word → covers index y ≡ true → suc l ≤ suc k → suc l ≤ k
          lower l y at other over low = ⊎_elim
              (λ (same : l ≡ k). absurd (other (ap (λ (s : Span). row_in s.word) (one_over 0 (top_of t + 1) index (rows_at t d) y x (rows_fill t h stands d (omega arith))
              (let height = at.height in let depth : at.depth ≡ d = omega arith in subst (λ (e : ℕ). IsOneOf y (rows_at t e)) depth at.one) on.one
              (covers_is index y over).0 (covers_is index y over).1 x_over.0 x_over.1))))
              (λ (differs : l ≡ k → ⊥). below_it l differs low)
              (cases_eq l k)
            where
              below_it : (l : ℕ) → (l ≡ k → ⊥) → suc l ≤ suc k → suc l ≤ k
              below_it l differs low = omega (arith, differs)

      mended_each : (l : ℕ) (y : Span) → OnLevel r.table h (root_of t) l y → IsMendedUpTo index (suc k) t' l y
      mended_each l y at = ⊎_elim
          (λ (same : row_in y.word ≡ row_in x.word). (let one = one_place t h stands l (suc k) y x at on same in
          subst (λ (p : ℕ × Span). IsMendedUpTo index (suc k) t' p.0 p.1) (λ i. (sym one.0 i, sym one.1 i)) x_mended))
          (λ (other : row_in y.word ≡ row_in x.word → ⊥). other_mended l y at other)
          (cases_eq (row_in y.word) (row_in x.word))

      pub mended_next : Levels (IsMendedUpTo index (suc k) t') r'.table h (root_of t')
      mended_next = levels_shared (IsMendedUpTo index (suc k) t') r.table r'.table h (root_of t) shared
          (levels_from (IsMendedUpTo index (suc k) t') r.table h (root_of t) h 0 (omega arith) (λ l y low at. mended_each l y at))

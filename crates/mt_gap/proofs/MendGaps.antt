-- All gap words of a path's rows mended: what holds from one slot to the next, and from one row to the next.
use Rattle.mt_gap.proofs.Prelude.{◌≡◌, ◌≢◌, ℕ, zero, suc, ◌+◌, ◌-◌, ◌<◌, ◌≤◌, List, [], ◌∷◌, Bool, true, false, Some, None, length, refl, sym, ap, ◌∙◌, subst, ⊎_elim, inl, inr, arith, ◌⊎◌, slice_index_or, AllByRecursion, cases_Bool, cases_eq, Width, deepest, greatest, RowKind, Leaf, Inner, Gapped, Span, gap_column, row_in, named_kind, slots_of, Names-named_kind, some_columns, some_slots_of, gap_within, fills_le, PathStep, step_in, span_at, step_at, path_in, rows_at, row_of, levels, step, place, lawful, reached, rows_fill, step_of, covers, HasGaps, Tree, IsRow, Stands, GapLaw, kind_on, longest_below, top_of, Levels, tree_on, LiveAreReached, NoneBuried, root_of, Rooted, Sheet, IsPlace, OnlyReads, MayTend, IsWhole, life_of, is_buried, with_word, word_at, loaded, Table, root_span, spans_in, spans_by, row_spans, height_by_depth, row_most, Shared, levels_here, levels_map, levels_from, IsOneOf, OnLevel, on_level_reached, one_of_parts, reached_number, times_reached, levels_at, Child, row_children, AreRight, IsMendedSlot, HasMendedRows, told_by, GapLawBeside, IsLiveRow, IsGapIn, KeepsOtherWords, MayMendGaps, MayTell, MayMend, IsMended}
use Rattle.mt_gap.proofs.ChildLists.{spans, no_child}
use Rattle.mt_gap.proofs.Mending.{begins_at, child_tells, covers_is, levels_below, one_over}
use Rattle.mt_gap.proofs.AtLevel.{width_same, within_then, one_up, read_on, shared_then, at_stored}
use Rattle.mt_gap.proofs.MendWay.{RootIs, no_root, not_gapped, begun_at, gap_stored, plain_law, root_named, row_may_tell}
use Rattle.mt_gap.proofs.Tells.{row_spans_are}
use Rattle.mt_gap.proofs.SlotsRight.{are_right, law_of_right, levels_slot, right_then, slot_one}

-- ---- what a row tells, whatever slot a step takes in it

abbrev pub step_to : Span → PathStep
step_to c = record { row = row_in c.word; slot = 0; min = c.first; max = c.last }

tells_same : (kind : RowKind) (t : Table) (c : Span) (index : ℕ) → told_by kind t (step_to c) ≡ told_by kind t (step_in t c index)
tells_same Leaf t c index = refl
tells_same Inner t c index = refl
tells_same Gapped t c index = refl

may_same : (kind : RowKind) (t : Table) (c : Span) (index : ℕ) → MayTell kind t (step_in t c index) → MayTell kind t (step_to c)
may_same Leaf t c index may = may
may_same Inner t c index may = may
may_same Gapped t c index may = may

pub kept_at : (s : Sheet) (path : List PathStep) (d : ℕ) → AllByRecursion (IsLiveRow s) path → d < length path → IsLiveRow s (step_at path d)
kept_at s [] d kept within = absurd (omega arith)
kept_at s (p ∷ path) zero kept within = kept.0
kept_at s (p ∷ path) (suc d) kept within = kept_at s path d kept.1 (omega arith)

-- ---- the row above those that are mended

module _ (s s' : Sheet) (path : List PathStep) (kind : RowKind) (d slots : ℕ) (m : HasMendedRows s s' path kind (d + 2) slots) (whole : IsWhole s') where
  abbrev r : Rooted
  r = s'.tree

  abbrev t : Tree
  t = tree_on true s'.tree

  abbrev pub x : Span
  x = row_of t d m.index

  within' : m.index ≤ top_of t
  within' = within_then m.at

  high : m.height ≡ d + suc m.done
  high = let levels = m.at.level.levels_are in omega arith

  many : length path ≡ m.height + 1
  many = ap length m.at.steps ∙ levels t m.height m.at.stands m.index within'

  pub above : d + 1 < length path
  above = let n = many in let h = high in omega arith

  pub above_is : step_at path d ≡ step_in r.table x m.index
  above_is = ap (λ (l : List PathStep). step_at l d) m.at.steps ∙ step t m.height m.at.stands m.index d within' (let h = high in omega arith)

  on : OnLevel r.table m.height (root_of t) (suc m.done) x
  on = record { depth = d; height = high; one = (let at = place t m.height m.at.stands m.index d within' (let h = high in omega arith) in one_of_parts (rows_at t d) at.front at.back x at.parts) }

  x_row : IsRow t (suc m.done) x
  x_row = lawful t m.height m.at.stands m.index d (suc m.done) within' high

  x_low : x.last ≤ top_of t
  x_low = let at = place t m.height m.at.stands m.index d within' (let h = high in omega arith) in let end = fills_le (x.last + 1) (top_of t + 1) at.back at.after in omega arith

  x_over : (x.first ≤ m.index) × (m.index ≤ x.last)
  x_over = let at = place t m.height m.at.stands m.index d within' (let h = high in omega arith) in (at.from, at.to)

  pub above_place : IsPlace s'.tree (step_at path d).row 0
  above_place = subst (λ (p : PathStep). IsPlace s'.tree p.row 0) (sym above_is)
      (record { first = (Names-named_kind x.word (kind_on true (suc m.done)) x_row.name.named).0.0; last = x_row.name.in_table; column = some_columns r.table.width })

  pub x_spans : row_spans r.table (step_at path d).row Gapped (step_at path d).min (step_at path d).max ≡ spans_in r.table x
  x_spans = (λ i. row_spans r.table (above_is i).row Gapped (above_is i).min (above_is i).max) ∙ sym (ap (λ k. spans_by r.table k x) x_row.name.named)

  -- a row of that level that covers the index is this one
  only_x : (y : Span) → OnLevel r.table m.height (root_of t) (suc m.done) y → covers m.index y ≡ true → y ≡ x
  unfolding on
  only_x y at over = one_over 0 (top_of t + 1) m.index (rows_at t d) y x (rows_fill t m.height m.at.stands d (let h = high in omega arith))
      (let height = at.height in let h = high in let depth : at.depth ≡ d = omega arith in subst (λ (e : ℕ). IsOneOf y (rows_at t e)) depth at.one) on.one
      (covers_is m.index y over).0 (covers_is m.index y over).1 x_over.0 x_over.1

  -- ---- its next slot

  module _ (used : slots < length (spans_in r.table x)) where
    abbrev pub c : Span
    c = span_at (spans_in r.table x) slots

    c_row : IsRow t m.done c
    c_row = (levels_here (IsRow t) r.table m.done (c ∷ []) (levels_slot (IsRow t) r.table m.done (spans_in r.table x) slots used (levels_below (IsRow t) r.table m.height m.done (root_of t) x m.at.stands.rows on))).0

    c_right : AreRight (IsMendedSlot m.index m.done slots) t m.done c
    c_right = (levels_here (AreRight (IsMendedSlot m.index m.done slots) t) r.table m.done (c ∷ [])
        (levels_slot (AreRight (IsMendedSlot m.index m.done slots) t) r.table m.done (spans_in r.table x) slots used (levels_below (AreRight (IsMendedSlot m.index m.done slots) t) r.table m.height m.done (root_of t) x m.right on))).0

    c_low : c.last ≤ top_of t
    c_low = let end = begins_at x.first (x.last + 1) (spans_in r.table x) c x_row.pivots.fills (slot_one (spans_in r.table x) slots used) in let low = x_low in let to = end.1 in omega arith

    pub c_named : named_kind c.word ≢ None
    c_named = λ none. (let no : Some (kind_on true m.done) ≡ None = sym c_row.name.named ∙ none in absurd (cc))

    pub slot_low : slots < slots_of r.table.width Gapped
    slot_low = let few = row_most x_row.name in let u = used in omega arith

    x_kept : IsLiveRow s (step_in r.table x m.index)
    x_kept = subst (IsLiveRow s) above_is (kept_at s path d m.kept (let a = above in omega arith))

    may_tend_it : (gap : ℕ) → MayTend s' (row_in x.word) (gap_column (slots_of r.table.width Gapped) slots) gap
    may_tend_it gap = record {
      at = record { first = (Names-named_kind x.word (kind_on true (suc m.done)) x_row.name.named).0.0; last = x_row.name.in_table; column = gap_within r.table.width slots slot_low };
      live = ap (λ (v : Sheet). life_of v.lives (row_in x.word)) m.at.only ∙ x_kept.0;
      kept = ap (λ (v : Sheet). is_buried v.buried (row_in x.word)) m.at.only ∙ x_kept.1;
      column = inr (record { depth = d; at = x; slot = slots; reached = reached t m.height m.at.stands m.index d within' (let h = high in omega arith); gapped = x_row.name.named; number = refl; used = used; column = refl });
      alive = λ none. absurd (let some = some_slots_of r.table.width Gapped in omega arith);
    }

    abbrev pub at_slot : PathStep → PathStep
    at_slot p = record { row = p.row; slot = slots; min = p.min; max = p.max }

    pub may_mend_it : MayMend s' kind (at_slot (step_at path d)) (step_to c)
    may_mend_it = subst (λ (p : PathStep). MayMend s' kind (at_slot p) (step_to c)) (sym above_is) (record {
      place = record { first = (Names-named_kind c.word (kind_on true m.done) c_row.name.named).0.0; last = c_row.name.in_table; column = some_columns r.table.width };
      tells = subst (λ (k : RowKind). MayTell k r.table (step_to c)) (sym m.at.level.kind_is) (may_same (kind_on true m.done) r.table c m.index (row_may_tell r m.done m.index c c_row c_low));
      slot = slot_low;
      tend = may_tend_it;
    })

    module _ (s'' : Sheet) (mended : IsMended s' s'' kind (at_slot (step_at path d)) (step_to c)) where
      abbrev gap : ℕ
      gap = told_by kind r.table (step_to c)

      abbrev r' : Rooted
      r' = with_word r (row_in x.word) (gap_column (slots_of r.table.width Gapped) slots) gap

      stored : s'' ≡ record s' { tree = r'; reads = s''.reads }
      stored = mended ∙ (λ i. record s' { tree = with_word r (above_is i).row (gap_column (slots_of r.table.width Gapped) slots) gap; reads = s''.reads })

      gap_is : gap ≡ longest_below r.table m.done (c ∷ [])
      gap_is =
          ap (λ (k : RowKind). told_by k r.table (step_to c)) m.at.level.kind_is
          ∙ (tells_same (kind_on true m.done) r.table c m.index
          ∙ child_tells r m.done m.index c c_row (law_of_right (IsMendedSlot m.index m.done slots) r m.done c c_right (λ i within. inr (inl (omega arith)))))

      more : (l : ℕ) (y : Span) (i : ℕ) → OnLevel r.table m.height (root_of t) l y → IsMendedSlot m.index m.done (slots + 1) l y i → IsMendedSlot m.index m.done slots l y i ⊎ ((y ≡ x) × (i ≡ slots))
      more l y i at (inl beside) = inl (inl beside)
      more l y i at (inr (inl low)) = inl (inr (inl low))
      more l y i at (inr (inr next)) = ⊎_elim
          (λ (e : i ≡ slots). elim (cases_Bool (covers m.index y)) [
            | inl over ↦ inr (only_x y (subst (λ (n : ℕ). OnLevel r.table m.height (root_of t) n y) next.0 at) over, e)
            | inr beside ↦ inl (inl beside)
          ])
          (λ (other : i ≡ slots → ⊥). inl (inr (inr (next.0, before i other next.1))))
          (cases_eq i slots)
        where
          before : (i : ℕ) → (i ≡ slots → ⊥) → i < slots + 1 → i < slots
          before i other low = omega (arith, other)

      keeps : KeepsOtherWords s.tree r' path
      keeps row col low = gap_stored s.tree r (row_in x.word) slots gap row col (IsGapIn s.tree path row col) (width_same m.at) slot_low low (m.words row col low) (λ same_row same_col. record {
        level = d;
        slot = slots;
        above = above;
        within = subst (λ (w : Width). slots < slots_of w Gapped) (width_same m.at) slot_low;
        row_is = same_row ∙ sym (ap (λ (p : PathStep). p.row) above_is);
        col_is = same_col ∙ ap (λ (w : Width). gap_column (slots_of w Gapped) slots) (width_same m.at);
      })

      pub mended_one : HasMendedRows s s'' path kind (d + 2) (slots + 1)
      mended_one = record {
        index = m.index;
        height = m.height;
        done = m.done;
        at = at_stored m.at whole x on slots gap used s'' stored;
        right = subst (λ (v : Rooted). Levels (AreRight (IsMendedSlot m.index m.done (slots + 1)) (tree_on true v)) v.table m.height (root_of (tree_on true v))) (sym (ap (λ (v : Sheet). v.tree) stored))
            (right_then r m.height m.done slots gap x whole.words m.at.stands on used gap_is (IsMendedSlot m.index m.done slots) (IsMendedSlot m.index m.done (slots + 1)) m.right more);
        words = subst (λ (v : Rooted). KeepsOtherWords s.tree v path) (sym (ap (λ (v : Sheet). v.tree) stored)) keeps;
        kept = m.kept;
      }

      -- the row's items are those that were there
      pub items_stay : row_spans s''.tree.table (step_at path d).row Gapped (step_at path d).min (step_at path d).max ≡ row_spans s'.tree.table (step_at path d).row Gapped (step_at path d).min (step_at path d).max
      items_stay =
          (λ i. row_spans (stored i).tree.table (above_is i).row Gapped (above_is i).min (above_is i).max)
          ∙ (sym (ap (λ k. spans_by r'.table k x) x_row.name.named)
          ∙ (levels_at (Shared r.table r'.table) r.table m.height (suc m.done) (root_of t) x (shared_then m.at whole x on slots gap used) on
          ∙ sym x_spans))

  -- ---- all its slots are mended

  all_of : (l : ℕ) (y : Span) (i : ℕ) → length (spans_in r.table x) ≤ slots → OnLevel r.table m.height (root_of t) l y → i < length (spans_in r.table y)
      → IsMendedSlot m.index (suc m.done) 0 l y i → IsMendedSlot m.index m.done slots l y i
  all_of l y i all at within (inl beside) = inl beside
  all_of l y i all at within (inr (inr next)) = absurd (omega (arith, next.1))
  all_of l y i all at within (inr (inl low)) = ⊎_elim
      (λ (e : l ≡ suc m.done). elim (cases_Bool (covers m.index y)) [
        | inl over ↦ (let same : y ≡ x = only_x y (subst (λ (n : ℕ). OnLevel r.table m.height (root_of t) n y) e at) over in
            let few : i < length (spans_in r.table x) = subst (λ (z : Span). i < length (spans_in r.table z)) same within in
            inr (inr (e, omega arith)))
        | inr beside ↦ inl beside
      ])
      (λ (other : l ≡ suc m.done → ⊥). inr (inl (lower l other low)))
      (cases_eq l (suc m.done))
    where
      lower : (l : ℕ) → (l ≡ suc m.done → ⊥) → l ≤ suc m.done → l ≤ m.done
      lower l other low = omega (arith, other)

  pub mended_row : length (spans_in r.table x) ≤ slots → HasMendedRows s s' path Gapped (d + 1) 0
  mended_row all = record {
    index = m.index;
    height = m.height;
    done = suc m.done;
    at = one_up m.at d refl;
    right = levels_from (AreRight (IsMendedSlot m.index (suc m.done) 0) t) r.table m.height (root_of t) m.height 0 (omega arith)
        (λ l y low at i within is. levels_at (AreRight (IsMendedSlot m.index m.done slots) t) r.table m.height l (root_of t) y m.right at i within (all_of l y i all at within is));
    words = m.words;
    kept = m.kept;
  }

-- ---- as the code reads a row

-- loads change nothing
pub still_mended : (before s s' : Sheet) (path : List PathStep) (kind : RowKind) (left slots : ℕ) → OnlyReads s s' → HasMendedRows before s path kind left slots → HasMendedRows before s' path kind left slots
still_mended before s s' path kind left slots rest m = subst (λ (v : Sheet). HasMendedRows before v path kind left slots) (sym rest) (record {
  index = m.index;
  height = m.height;
  done = m.done;
  at = read_on m.at s'.reads;
  right = m.right;
  words = m.words;
  kept = m.kept;
})

pub children_are : (s s' : Sheet) (step : PathStep) (xs : List Child) → OnlyReads s s' → xs ≡ row_children s.tree.table step.row Gapped step.min step.max
    → spans xs ≡ row_spans s'.tree.table step.row Gapped step.min step.max
children_are s s' step xs rest is = ap spans is ∙ (row_spans_are s.tree.table Gapped step ∙ sym (ap (λ (v : Sheet). row_spans v.tree.table step.row Gapped step.min step.max) rest))

span_of_child : (xs : List Child) (i : ℕ) → (slice_index_or xs i no_child).span ≡ span_at (spans xs) i
span_of_child [] zero = refl
span_of_child [] (suc i) = refl
span_of_child (x ∷ xs) zero = refl
span_of_child (x ∷ xs) (suc i) = span_of_child xs i

length-spans : (xs : List Child) → length (spans xs) ≡ length xs
length-spans [] = refl
length-spans (x ∷ xs) = ap suc (length-spans xs)

module _ (s s' : Sheet) (path : List PathStep) (kind : RowKind) (d slots : ℕ) (m : HasMendedRows s s' path kind (d + 2) slots) (whole : IsWhole s') (xs : List Child)
    (is : spans xs ≡ row_spans s'.tree.table (step_at path d).row Gapped (step_at path d).min (step_at path d).max) where
  abbrev row : Span
  row = x s s' path kind d slots m whole

  spans_are : spans xs ≡ spans_in s'.tree.table row
  spans_are = is ∙ x_spans s s' path kind d slots m whole

  as_many : length xs ≡ length (spans_in s'.tree.table row)
  as_many = sym (length-spans xs) ∙ ap length spans_are

  module _ (more : slots < length xs) where
    used : slots < length (spans_in s'.tree.table row)
    used = let many = as_many in omega arith

    abbrev child : Span
    child = (slice_index_or xs slots no_child).span

    child_is : child ≡ c s s' path kind d slots m whole used
    child_is = span_of_child xs slots ∙ ap (λ (ys : List Span). span_at ys slots) spans_are

    pub child_named : named_kind child.word ≢ None
    child_named = subst (λ (y : Span). named_kind y.word ≢ None) (sym child_is) (c_named s s' path kind d slots m whole used)

    pub may_mend_child : MayMend s' kind (record { row = (step_at path d).row; slot = slots; min = (step_at path d).min; max = (step_at path d).max }) (step_to child)
    may_mend_child = subst (λ (y : Span). MayMend s' kind (record { row = (step_at path d).row; slot = slots; min = (step_at path d).min; max = (step_at path d).max }) (step_to y)) (sym child_is)
        (may_mend_it s s' path kind d slots m whole used)

    module _ (s'' : Sheet) (mended : IsMended s' s'' kind (record { row = (step_at path d).row; slot = slots; min = (step_at path d).min; max = (step_at path d).max }) (step_to child)) where
      mended_c : IsMended s' s'' kind (record { row = (step_at path d).row; slot = slots; min = (step_at path d).min; max = (step_at path d).max }) (step_to (c s s' path kind d slots m whole used))
      mended_c = subst (λ (y : Span). IsMended s' s'' kind (record { row = (step_at path d).row; slot = slots; min = (step_at path d).min; max = (step_at path d).max }) (step_to y)) child_is mended

      pub child_mended : HasMendedRows s s'' path kind (d + 2) (slots + 1)
      child_mended = mended_one s s' path kind d slots m whole used s'' mended_c

      pub children_stay : spans xs ≡ row_spans s''.tree.table (step_at path d).row Gapped (step_at path d).min (step_at path d).max
      children_stay = is ∙ sym (items_stay s s' path kind d slots m whole used s'' mended_c)

  pub children_mended : length xs ≤ slots → HasMendedRows s s' path Gapped (d + 1) 0
  children_mended all = mended_row s s' path kind d slots m whole (let many = as_many in omega arith)

-- ---- a path whose rows are all live

kept_each : (P : PathStep → Type 0) (path : List PathStep) → ((d : ℕ) → d < length path → P (step_at path d)) → AllByRecursion P path
kept_each P [] each = tt
kept_each P (p ∷ path) each = (each 0 (omega arith), kept_each P path (λ d within. each (suc d) (omega arith)))

-- where the rows that are reached are live, and none is buried, the rows of a path are so
pub kept_if_live : (gapped : Bool) (s : Sheet) (h index : ℕ) → Stands (tree_on gapped s.tree) h → LiveAreReached s.tree s.lives → NoneBuried s.tree.rows s.buried → index ≤ greatest s.tree.table.width
    → AllByRecursion (IsLiveRow s) (path_in s.tree.table s.tree.root index)
kept_if_live gapped s h index stands live none within = kept_each (IsLiveRow s) (path_in s.tree.table s.tree.root index) (λ d deep. at d (omega (arith, levels (tree_on gapped s.tree) h stands index within)))
  where
    at : (d : ℕ) → d ≤ h → IsLiveRow s (step_of (tree_on gapped s.tree) d index)
    at d low =
        let t = tree_on gapped s.tree in
        let y = row_of t d index in
        let here = place t h stands index d within low in
        let on : OnLevel t.table h (root_of t) (h - d) y = record { depth = d; height = omega arith; one = one_of_parts (rows_at t d) here.front here.back y here.parts } in
        let some = on_level_reached t h stands (h - d) y on in
        let number = reached_number t h stands (row_in y.word) some in
        subst (IsLiveRow s) (sym (step t h stands index d within low)) ((live (row_in y.word) number.0 number.1).1 (times_reached t h stands (row_in y.word) some), none (row_in y.word) number.0 number.1)

-- ---- the first and the last

no_plain : (s : Sheet) (path : List PathStep) → MayMendGaps false s path → RootIs s Gapped → ⊥
no_plain s path may root = elim may.gaps [ inl empty ↦ no_root s empty root | inr full ↦ not_gapped full.0 (sym (root_named false s full.0 full.1) ∙ root) ]

begun_rows : (r : Rooted) (index l : ℕ) (y : Span) → GapLawBeside index (tree_on true r) l y → AreRight (IsMendedSlot index 0 0) (tree_on true r) l y
begun_rows r index l y law i within (inl beside) = are_right (IsMendedSlot index 0 0) r l y (law beside) i within (inl beside)
begun_rows r index zero y law i within (inr (inl low)) = tt
begun_rows r index (suc l) y law i within (inr (inl low)) = absurd (omega arith)
begun_rows r index l y law i within (inr (inr next)) = absurd (omega (arith, next.1))

begin_gapped : (s s' : Sheet) (path : List PathStep) → MayMendGaps true s path → RootIs s Gapped → s' ≡ loaded s → HasMendedRows s s' path Leaf (length path) 0
begin_gapped s s' path may root is = elim may.gaps [
  | inl empty ↦ absurd (no_root s empty root)
  | inr full ↦ (let many = ap length may.steps ∙ levels (tree_on true s.tree) full.0 full.1 may.index may.within in record {
    index = may.index;
    height = full.0;
    done = 0;
    at = begun_at s s' path may.index full.0 full.1 is may.within (length path) many may.steps;
    right = subst (λ (v : Sheet). Levels (AreRight (IsMendedSlot may.index 0 0) (tree_on true v.tree)) v.tree.table full.0 (root_of (tree_on true v.tree))) (sym is)
        (levels_map (GapLawBeside may.index (tree_on true s.tree)) (AreRight (IsMendedSlot may.index 0 0) (tree_on true s.tree)) s.tree.table (λ l y law. begun_rows s.tree may.index l y law) full.0 (root_of (tree_on true s.tree)) full.2);
    words = (λ row col low. inl (ap (λ (v : Sheet). word_at v.tree row col) is));
    kept = may.kept;
  })
]

pub begin_rows : (gapped : Bool) (s s' : Sheet) (path : List PathStep) → MayMendGaps gapped s path → RootIs s Gapped → s' ≡ loaded s → HasMendedRows s s' path Leaf (length path) 0
begin_rows false s s' path may root is = absurd (no_plain s path may root)
begin_rows true s s' path may root is = begin_gapped s s' path may root is

pub end_rows : (gapped : Bool) (s s' : Sheet) (path : List PathStep) (k : RowKind) (left : ℕ) → MayMendGaps gapped s path → RootIs s Gapped → HasMendedRows s s' path k left 0 → left ≤ 1 → HasGaps (tree_on gapped s'.tree)
end_rows false s s' path k left may root m last = absurd (no_plain s path may root)
end_rows true s s' path k left may root m last =
    let low = m.at.level.low in let levels = m.at.level.levels_are in
    let all : m.done ≡ m.height = omega arith in
    inr (
      m.height,
      m.at.stands,
      levels_from (GapLaw (tree_on true s'.tree)) s'.tree.table m.height (root_of (tree_on true s'.tree)) m.height 0 (omega arith)
          (λ l y below at. law_of_right (IsMendedSlot m.index m.done 0) s'.tree l y (levels_at (AreRight (IsMendedSlot m.index m.done 0) (tree_on true s'.tree)) s'.tree.table m.height l (root_of (tree_on true s'.tree)) y m.right at)
          (λ i within. inr (inl (omega arith)))),
    )

pub end_row_spans : (gapped : Bool) (s s' : Sheet) (path : List PathStep) (k : RowKind) (left h : ℕ) → HasMendedRows s s' path k left 0 → Stands (tree_on gapped s.tree) h → Levels (Shared s.tree.table s'.tree.table) s.tree.table h (root_of (tree_on gapped s.tree))
end_row_spans gapped s s' path k left h m stands =
    let tall = height_by_depth (tree_on true s.tree) deepest m.height (root_span s.tree.table s.tree.root) m.at.level.stood.low m.at.level.stood.rows in
    let tall' = height_by_depth (tree_on gapped s.tree) deepest h (root_span s.tree.table s.tree.root) stands.low stands.rows in
    let same : m.height ≡ h = omega arith in
    subst (λ (n : ℕ). Levels (Shared s.tree.table s'.tree.table) s.tree.table n (root_of (tree_on gapped s.tree))) same m.at.spans

pub no_rows_to_mend : (gapped : Bool) (s s' : Sheet) (path : List PathStep) → MayMendGaps gapped s path → (RootIs s Gapped → ⊥) → s' ≡ loaded s → HasGaps (tree_on gapped s'.tree)
no_rows_to_mend gapped s s' path may plain is = subst (λ (v : Sheet). HasGaps (tree_on gapped v.tree)) (sym is) (elim may.gaps [
  | inl empty ↦ inl empty
  | inr full ↦ inr (full.0, full.1, plain_law gapped s full.0 full.1 plain)
])

-- ---- by the number of rows that are left

pub mended_below : (s s' s'' : Sheet) (path : List PathStep) (kind : RowKind) (left : ℕ) → HasMendedRows s s' path kind left 0 → 2 ≤ left
    → (HasMendedRows s s' path kind (left - 1 - 1 + 2) 0 → HasMendedRows s s'' path Gapped (left - 1 - 1 + 1) 0) → HasMendedRows s s'' path Gapped (left - 1) 0
mended_below s s' s'' path kind left m more next =
    let here : left ≡ left - 1 - 1 + 2 = omega arith in
    let there : left - 1 - 1 + 1 ≡ left - 1 = omega arith in
    subst (λ (n : ℕ). HasMendedRows s s'' path Gapped n 0) there (next (subst (λ (n : ℕ). HasMendedRows s s' path kind n 0) here m))

pub may_go_on : (s s' : Sheet) (path : List PathStep) (kind : RowKind) (left : ℕ) → HasMendedRows s s' path kind left 0 → 2 ≤ left → HasMendedRows s s' path kind (left - 1 - 1 + 2) 0
may_go_on s s' path kind left m more = let here : left ≡ left - 1 - 1 + 2 = omega arith in subst (λ (n : ℕ). HasMendedRows s s' path kind n 0) here m

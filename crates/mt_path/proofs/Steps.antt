-- The rows on the path to an index, level by level. For the proofs of the crates above, too.
use Rattle.mt_path.proofs.Prelude.{◌≡◌, ◌≢◌, ℕ, zero, suc, ◌+◌, ◌<◌, ◌≤◌, List, [], ◌∷◌, ◌++◌, Option, Some, None, length, refl, sym, ap, ◌∙◌, subst, arith, append-nil, append_assoc, all_map, RowKind, Leaf, named_kind, Span, Fills, Table, spans_in, inner_of, expand, level, Levels, IsBelow, by_kind, Tree, IsRow, inner_no_leaf, inner_not_named, Filled, expand_fills, levels_here, level-append, levels_front, levels_back, by_kind_inner, PathStep, slot_for, span_at, step_in, below, path_of, step_at, row_on}
use Rattle.mt_path.proofs.Places.{At, at_slot, at_parts, at_get, at_within, slot_is}

-- ---- one step

pub path_of_none : (t : Table) (depth : ℕ) (x : Span) (index : ℕ) → named_kind x.word ≡ None → path_of t depth x index ≡ []
unfolding path_of
path_of_none t zero x index none = refl
path_of_none t (suc depth) x index none = ap (λ (k : Option RowKind). by_kind k (step_in t x index ∷ []) (step_in t x index ∷ path_of t depth (below t x index) index)) none

pub path_of_leaf : (t : Table) (depth : ℕ) (x : Span) (index : ℕ) → named_kind x.word ≡ Some Leaf → path_of t (suc depth) x index ≡ step_in t x index ∷ []
unfolding path_of
path_of_leaf t depth x index leaf = ap (λ (k : Option RowKind). by_kind k (step_in t x index ∷ []) (step_in t x index ∷ path_of t depth (below t x index) index)) leaf

pub path_of_inner : (t : Table) (depth : ℕ) (x : Span) (index : ℕ) (kind : RowKind) → named_kind x.word ≡ Some kind → kind ≢ Leaf → path_of t (suc depth) x index ≡ step_in t x index ∷ path_of t depth (below t x index) index
unfolding path_of
path_of_inner t depth x index kind named other =
    ap (λ (k : Option RowKind). by_kind k (step_in t x index ∷ []) (step_in t x index ∷ path_of t depth (below t x index) index)) named
    ∙ by_kind_inner kind (step_in t x index ∷ []) (step_in t x index ∷ path_of t depth (below t x index) index) other

-- ---- rows below a row

module _ (t : Tree) where
  -- the rows below x, which stands at a height, are lawful, and x holds the index
  pub record Leads (h : ℕ) (x : Span) (index : ℕ) : Type 0 where
    pub rows : Levels (IsRow t) t.table h (x ∷ [])
    pub from : x.first ≤ index
    pub to : index ≤ x.last

  pub row_here : (h : ℕ) (x : Span) (index : ℕ) → Leads h x index → IsRow t h x
  row_here h x index leads = (levels_here (IsRow t) t.table h (x ∷ []) leads.rows).0

  rows_below : (h : ℕ) (x : Span) → Levels (IsRow t) t.table (suc h) (x ∷ []) → Levels (IsRow t) t.table h (spans_in t.table x)
  rows_below h x rows = subst (Levels (IsRow t) t.table h) (append-nil (spans_in t.table x)) rows.1

  pub child_at : (h : ℕ) (x : Span) (index : ℕ) → Leads h x index → At x.first (x.last + 1) (spans_in t.table x) index (below t.table x index)
  child_at h x index leads =
      let to = leads.to in
      at_slot x.first (x.last + 1) (spans_in t.table x) index (row_here h x index leads).pivots.fills leads.from (omega arith)

  pub child_leads : (h : ℕ) (x : Span) (index : ℕ) → Leads (suc h) x index → Leads h (below t.table x index) index
  child_leads h x index leads =
      let y = below t.table x index in
      let at = child_at (suc h) x index leads in
      let rows = subst (Levels (IsRow t) t.table h) at.parts (rows_below h x leads.rows) in
      record {
        rows = levels_front (IsRow t) t.table h (y ∷ []) at.back (levels_back (IsRow t) t.table h at.front (y ∷ at.back) rows);
        from = at.from;
        to = at.to;
      }

  leaf_path : (depth : ℕ) (x : Span) (index : ℕ) → Leads zero x index → path_of t.table (suc depth) x index ≡ step_in t.table x index ∷ []
  leaf_path depth x index leads = path_of_leaf t.table depth x index (row_here zero x index leads).name.named

  inner_path : (depth h : ℕ) (x : Span) (index j : ℕ) → Leads (suc h) x index → path_of t.table (suc depth) x j ≡ step_in t.table x j ∷ path_of t.table depth (below t.table x j) j
  inner_path depth h x index j leads = path_of_inner t.table depth x j (inner_of t.gapped) (row_here (suc h) x index leads).name.named (inner_no_leaf t.gapped)

  pub path_length : (depth h : ℕ) (x : Span) (index : ℕ) → h < depth → Leads h x index → length (path_of t.table depth x index) ≡ h + 1
  path_length zero h x index deep leads = absurd (omega arith)
  path_length (suc depth) zero x index deep leads = ap length (leaf_path depth x index leads)
  path_length (suc depth) (suc h) x index deep leads =
      let behind = path_length depth h (below t.table x index) index (omega arith) (child_leads h x index leads) in
      let all = ap length (inner_path depth h x index index leads) in
      omega (arith, all, behind)

  pub path_step : (depth h d : ℕ) (x : Span) (index : ℕ) → h < depth → d ≤ h → Leads h x index → step_at (path_of t.table depth x index) d ≡ step_in t.table (row_on t.table d x index) index
  unfolding row_on
  path_step zero h d x index deep low leads = absurd (omega arith)
  path_step (suc depth) zero zero x index deep low leads = ap (λ (l : List PathStep). step_at l 0) (leaf_path depth x index leads)
  path_step (suc depth) zero (suc d) x index deep low leads = absurd (omega arith)
  path_step (suc depth) (suc h) zero x index deep low leads = ap (λ (l : List PathStep). step_at l 0) (inner_path depth h x index index leads)
  path_step (suc depth) (suc h) (suc d) x index deep low leads =
      ap (λ (l : List PathStep). step_at l (suc d)) (inner_path depth h x index index leads)
      ∙ path_step depth h d (below t.table x index) index (omega arith) (omega arith) (child_leads h x index leads)

  pub row_leads : (d k h : ℕ) (x : Span) (index : ℕ) → h ≡ d + k → Leads h x index → Leads k (row_on t.table d x index) index
  unfolding row_on
  row_leads zero k h x index high leads = let same : h ≡ k = omega arith in subst (λ (n : ℕ). Leads n x index) same leads
  row_leads (suc d) k zero x index high leads = absurd (omega arith)
  row_leads (suc d) k (suc h) x index high leads = row_leads d k h (below t.table x index) index (omega arith) (child_leads h x index leads)

  -- ---- where they stand in their level

  pub level_fills : (d h lo hi : ℕ) (xs : List Span) → d ≤ h → Levels (IsRow t) t.table h xs → Fills lo hi xs → Fills lo hi (level t.table d xs)
  level_fills zero h lo hi xs low rows fills = fills
  level_fills (suc d) zero lo hi xs low rows fills = absurd (omega arith)
  level_fills (suc d) (suc h) lo hi xs low rows fills =
      level_fills d h lo hi (expand t.table xs) (omega arith) rows.1
      (expand_fills t.table lo hi xs (all_map (IsRow t (suc h)) (Filled t.table) (λ x row. row.pivots.fills) xs rows.0) fills)

  one_fills : (x : Span) (index : ℕ) → x.first ≤ index → index ≤ x.last → Fills x.first (x.last + 1) (x ∷ [])
  one_fills x index from to = (refl, omega arith, refl)

  pub row_at : (d h : ℕ) (x : Span) (index : ℕ) → d ≤ h → Leads h x index → At x.first (x.last + 1) (level t.table d (x ∷ [])) index (row_on t.table d x index)
  unfolding row_on
  row_at zero h x index low leads = at_parts x.first (x.last + 1) (x ∷ []) index [] x [] (one_fills x index leads.from leads.to) refl leads.from leads.to
  row_at (suc d) zero x index low leads = absurd (omega arith)
  row_at (suc d) (suc h) x index low leads =
      let y = below t.table x index in
      let here = child_at (suc h) x index leads in
      let there = row_at d h y index (omega arith) (child_leads h x index leads) in
      let r = row_on t.table d y index in
      let down = level t.table d in
      at_parts x.first (x.last + 1) (level t.table (suc d) (x ∷ [])) index (down here.front ++ there.front) r (there.back ++ down here.back)
      (level_fills (suc d) (suc h) x.first (x.last + 1) (x ∷ []) low leads.rows (one_fills x index leads.from leads.to))
      (ap down (append-nil (spans_in t.table x) ∙ here.parts)
      ∙ (level-append t.table d here.front (y ∷ here.back)
      ∙ (ap (λ (l : List Span). down here.front ++ l) (level-append t.table d (y ∷ []) here.back ∙ ap (λ (l : List Span). l ++ down here.back) there.parts)
      ∙ regroup (down here.front) there.front r there.back (down here.back))))
      there.from there.to
    where
      regroup : (a b : List Span) (r : Span) (c d : List Span) → a ++ ((b ++ (r ∷ c)) ++ d) ≡ (a ++ b) ++ (r ∷ (c ++ d))
      regroup a b r c d = simp append_assoc

  pub row_next : (d : ℕ) (x : Span) (index : ℕ) → row_on t.table (suc d) x index ≡ below t.table (row_on t.table d x index) index
  unfolding row_on
  row_next zero x index = refl
  row_next (suc d) x index = row_next d (below t.table x index) index

  pub row_below : (d h : ℕ) (x : Span) (index : ℕ) → d ≤ h → Leads h x index → IsBelow t.table d x (row_on t.table d x index)
  unfolding row_on
  row_below zero h x index low leads = refl
  row_below (suc d) zero x index low leads = absurd (omega arith)
  row_below (suc d) (suc h) x index low leads = (
    (λ leaf. inner_not_named t.gapped (sym (row_here (suc h) x index leads).name.named ∙ leaf)),
    (
      slot_for (spans_in t.table x) index,
      below t.table x index,
      at_get x.first (x.last + 1) (spans_in t.table x) index (below t.table x index) (child_at (suc h) x index leads),
      row_below d h (below t.table x index) index (omega arith) (child_leads h x index leads),
    ),
  )

  -- ---- two paths through one row

  slots_agree : (h : ℕ) (x : Span) (i j : ℕ) → Leads h x i → (below t.table x i).first ≤ j → j ≤ (below t.table x i).last → slot_for (spans_in t.table x) j ≡ slot_for (spans_in t.table x) i
  slots_agree h x i j leads from to =
      let at = child_at h x i leads in
      let fills = subst (Fills x.first (x.last + 1)) at.parts (row_here h x i leads).pivots.fills in
      ap (λ (l : List Span). slot_for l j) at.parts ∙ (slot_is x.first (x.last + 1) at.front (below t.table x i) at.back j fills from to ∙ at.slot)

  within : (d h : ℕ) (x : Span) (i j : ℕ) → d ≤ h → Leads h x i → (row_on t.table d x i).first ≤ j → j ≤ (row_on t.table d x i).last → (x.first ≤ j) × (j ≤ x.last)
  within d h x i j low leads from to =
      let inside = at_within x.first (x.last + 1) (level t.table d (x ∷ [])) i (row_on t.table d x i) (row_at d h x i low leads) in
      let low = inside.0 in let high = inside.1 in
      (omega arith, omega arith)

  pub rows_agree : (d h : ℕ) (x : Span) (i j : ℕ) → d ≤ h → Leads h x i → (row_on t.table d x i).first ≤ j → j ≤ (row_on t.table d x i).last → row_on t.table d x j ≡ row_on t.table d x i
  unfolding row_on
  rows_agree zero h x i j low leads from to = refl
  rows_agree (suc d) zero x i j low leads from to = absurd (omega arith)
  rows_agree (suc d) (suc h) x i j low leads from to =
      let y = below t.table x i in
      let leads' = child_leads h x i leads in
      let inside = within d h y i j (omega arith) leads' from to in
      let same : below t.table x j ≡ y = ap (span_at (spans_in t.table x)) (slots_agree (suc h) x i j leads inside.0 inside.1) in
      ap (λ (z : Span). row_on t.table d z j) same ∙ rows_agree d h y i j (omega arith) leads' from to

  pub steps_agree : (depth d h e : ℕ) (x : Span) (i j : ℕ) → h < depth → e < d → d ≤ h → Leads h x i → (row_on t.table d x i).first ≤ j → j ≤ (row_on t.table d x i).last
      → step_at (path_of t.table depth x j) e ≡ step_at (path_of t.table depth x i) e
  unfolding row_on
  steps_agree zero d h e x i j deep above low leads from to = absurd (omega arith)
  steps_agree (suc depth) zero h e x i j deep above low leads from to = absurd (omega arith)
  steps_agree (suc depth) (suc d) zero e x i j deep above low leads from to = absurd (omega arith)
  steps_agree (suc depth) (suc d) (suc h) zero x i j deep above low leads from to =
      let inside = within d h (below t.table x i) i j (omega arith) (child_leads h x i leads) from to in
      let slot = slots_agree (suc h) x i j leads inside.0 inside.1 in
      ap (λ (l : List PathStep). step_at l 0) (inner_path depth h x i j leads)
      ∙ (ap (λ (k : ℕ). with_slot k) slot
      ∙ sym (ap (λ (l : List PathStep). step_at l 0) (inner_path depth h x i i leads)))
    where
      with_slot : ℕ → PathStep
      with_slot k = record (step_in t.table x i) { slot = k }
  steps_agree (suc depth) (suc d) (suc h) (suc e) x i j deep above low leads from to =
      let y = below t.table x i in
      let leads' = child_leads h x i leads in
      let inside = within d h y i j (omega arith) leads' from to in
      let same : below t.table x j ≡ y = ap (span_at (spans_in t.table x)) (slots_agree (suc h) x i j leads inside.0 inside.1) in
      ap (λ (l : List PathStep). step_at l (suc e)) (inner_path depth h x i j leads)
      ∙ (ap (λ (z : Span). step_at (path_of t.table depth z j) e) same
      ∙ (steps_agree depth d h e y i j (omega arith) (omega arith) (omega arith) leads' from to
      ∙ sym (ap (λ (l : List PathStep). step_at l (suc e)) (inner_path depth h x i i leads))))

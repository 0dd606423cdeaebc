-- Paths from the root of a tree: how many steps, where each row stands, what two paths share, and the rows beside. For the
-- proofs of the crates above, too.
use Rattle.mt_path.proofs.Prelude.{◌≡◌, ℕ, suc, ◌+◌, ◌-◌, ◌<◌, ◌≤◌, List, [], ◌∷◌, ◌++◌, length, refl, sym, ap, ◌∙◌, subst, arith, append_assoc, slice_get_within, deepest, slots_of, slot_column, Span, Fills, fills_split, spans_in, root_span, level, IsBelow, Tree, IsRow, Stands, top_of, kind_on, IsSlotOf, Rooted, PathStep, slot_for, span_at, step_in, below, path_in, step_at, row_on}
use Rattle.mt_path.proofs.Places.{At, at_slot, at_once, at_get, first_behind, last_before}
use Rattle.mt_path.proofs.Steps.{Leads, row_here, child_at, path_length, path_step, row_leads, level_fills, row_at, row_next, row_below, rows_agree, steps_agree}

-- the span of the root
abbrev pub top_row : Tree → Span
top_row t = root_span t.table t.root

-- the words of the tree
abbrev pub rooted : Tree → Rooted
rooted t = record { rows = t.rows; table = t.table; root = t.root }

-- the rows of a level, from the left
abbrev pub rows_at : Tree → ℕ → List Span
rows_at t d = level t.table d (top_row t ∷ [])

-- the row of a level that holds an index
abbrev pub row_of : Tree → ℕ → ℕ → Span
row_of t d index = row_on t.table d (top_row t) index

abbrev pub step_of : Tree → ℕ → ℕ → PathStep
step_of t d index = step_at (path_in t.table t.root index) d

module _ (t : Tree) (h : ℕ) (stands : Stands t h) where
  pub root_leads : (index : ℕ) → index ≤ top_of t → Leads t h (top_row t) index
  root_leads index within = record { rows = stands.rows; from = omega arith; to = within }

  pub levels : (index : ℕ) → index ≤ top_of t → length (path_in t.table t.root index) ≡ h + 1
  levels index within = path_length t deepest h (top_row t) index stands.low (root_leads index within)

  pub step : (index d : ℕ) → index ≤ top_of t → d ≤ h → step_of t d index ≡ step_in t.table (row_of t d index) index
  step index d within low = path_step t deepest h d (top_row t) index stands.low low (root_leads index within)

  pub place : (index d : ℕ) → index ≤ top_of t → d ≤ h → At 0 (top_of t + 1) (rows_at t d) index (row_of t d index)
  place index d within low = row_at t d h (top_row t) index low (root_leads index within)

  pub rows_fill : (d : ℕ) → d ≤ h → Fills 0 (top_of t + 1) (rows_at t d)
  rows_fill d low = level_fills t d h 0 (top_of t + 1) (top_row t ∷ []) low stands.rows (refl, omega arith, refl)

  -- the row is lawful, and so are those below it
  pub leads : (index d k : ℕ) → index ≤ top_of t → h ≡ d + k → Leads t k (row_of t d index) index
  leads index d k within high = row_leads t d k h (top_row t) index high (root_leads index within)

  pub lawful : (index d k : ℕ) → index ≤ top_of t → h ≡ d + k → IsRow t k (row_of t d index)
  lawful index d k within high = row_here t k (row_of t d index) index (leads index d k within high)

  pub reached : (index d : ℕ) → index ≤ top_of t → d ≤ h → IsBelow t.table d (top_row t) (row_of t d index)
  reached index d within low = row_below t d h (top_row t) index low (root_leads index within)

  -- in the slot of a step stands what holds the index
  pub holds : (index d : ℕ) → index ≤ top_of t → d ≤ h → At (row_of t d index).first ((row_of t d index).last + 1) (spans_in t.table (row_of t d index)) index (below t.table (row_of t d index) index)
  holds index d within low = child_at t (h - d) (row_of t d index) index (leads index d (h - d) within (omega arith))

  -- which above the leaves is the row of the next level
  pub child : (index d : ℕ) → index ≤ top_of t → d < h → At (row_of t d index).first ((row_of t d index).last + 1) (spans_in t.table (row_of t d index)) index (row_of t (suc d) index)
  child index d within low =
      let row = row_of t d index in
      subst (At row.first (row.last + 1) (spans_in t.table row) index) (sym (row_next t d (top_row t) index)) (holds index d within (omega arith))

  -- the slot of the step holds a span, and a word is published there by a store in its column
  pub slot_used : (index d : ℕ) → index ≤ top_of t → d ≤ h → (step_of t d index).slot < length (spans_in t.table (row_of t d index))
  slot_used index d within low =
      let row = row_of t d index in
      let at = holds index d within low in
      let used = slice_get_within (spans_in t.table row) (slot_for (spans_in t.table row) index) (below t.table row index) (at_get row.first (row.last + 1) (spans_in t.table row) index (below t.table row index) at) in
      subst (λ (s : PathStep). s.slot < length (spans_in t.table row)) (sym (step index d within low)) used

  pub is_slot : (index d k : ℕ) → index ≤ top_of t → h ≡ d + k
      → IsSlotOf (rooted t) (step_of t d index).row (slot_column (slots_of t.table.width (kind_on t.gapped k)) (step_of t d index).slot)
  is_slot index d k within high = record {
    depth = d;
    at = row_of t d index;
    kind = kind_on t.gapped k;
    slot = (step_of t d index).slot;
    reached = reached index d within (omega arith);
    named = (lawful index d k within high).name.named;
    number = sym (ap (λ (s : PathStep). s.row) (step index d within (omega arith)));
    used = slot_used index d within (omega arith);
    column = refl;
  }

  -- ---- two paths

  -- of an index and of one inside its row
  pub inside_agree : (i j d : ℕ) → i ≤ top_of t → d ≤ h → (row_of t d i).first ≤ j → j ≤ (row_of t d i).last → (row_of t d j ≡ row_of t d i) × ((e : ℕ) → e < d → step_of t e j ≡ step_of t e i)
  inside_agree i j d within low from to = (
    rows_agree t d h (top_row t) i j low (root_leads i within) from to,
    (λ e above. steps_agree t deepest d h e (top_row t) i j stands.low above low (root_leads i within) from to),
  )

  -- whose rows at a level begin at the same index go through one row
  pub same_row : (i j d : ℕ) → i ≤ top_of t → j ≤ top_of t → d ≤ h → (row_of t d i).first ≡ (row_of t d j).first → row_of t d i ≡ row_of t d j
  same_row i j d within within' low same =
      let first = place i d within low in let second = place j d within' low in
      let from = first.from in let to = first.to in let from' = second.from in let to' = second.to in
      let k = (row_of t d i).first in
      let one = inside_agree i k d within low (omega arith) (omega arith) in
      let other = inside_agree j k d within' low (omega arith) (omega arith) in
      sym one.0 ∙ other.0

  -- ---- the rows beside

  in_slot : (index d : ℕ) → index ≤ top_of t → d ≤ h → span_at (rows_at t d) (slot_for (rows_at t d) index) ≡ row_of t d index
  in_slot index d within low =
      let fills = rows_fill d low in
      let at = place index d within low in
      let found = at_slot 0 (top_of t + 1) (rows_at t d) index fills (omega arith) (omega arith) in
      (at_once 0 (top_of t + 1) (rows_at t d) index (span_at (rows_at t d) (slot_for (rows_at t d) index)) found at.front (row_of t d index) at.back fills at.parts at.from at.to).1

  -- the first row of those that begin at an index is the one that holds it
  pub next_row : (d mid : ℕ) (front back : List Span) → d ≤ h → mid ≤ top_of t → rows_at t d ≡ front ++ back → Fills mid (top_of t + 1) back → (rest : List Span) × (back ≡ row_of t d mid ∷ rest)
  next_row d mid front back low within parts behind =
      let first = first_behind 0 mid (top_of t + 1) front back (subst (Fills 0 (top_of t + 1)) parts (rows_fill d low)) behind (omega arith) (omega arith) in (
        first.0,
        first.1 ∙ ap (λ (y : Span). y ∷ first.0) (ap (λ (l : List Span). span_at l (slot_for l mid)) (sym parts) ∙ in_slot mid d within low),
      )

  -- the last row of those that end before an index holds the one below it
  pub row_before : (d mid : ℕ) (front back : List Span) → d ≤ h → 0 < mid → mid ≤ top_of t + 1 → rows_at t d ≡ front ++ back → Fills 0 mid front → (rest : List Span) × (front ≡ rest ++ (row_of t d (mid - 1) ∷ []))
  row_before d mid front back low some within parts before =
      let last = last_before 0 mid (top_of t + 1) front back (subst (Fills 0 (top_of t + 1)) parts (rows_fill d low)) before some within in (
        last.0,
        last.1 ∙ ap (λ (y : Span). last.0 ++ (y ∷ [])) (ap (λ (l : List Span). span_at l (slot_for l (mid - 1))) (sym parts) ∙ in_slot (mid - 1) d (omega arith) low),
      )

  -- the row right of another begins behind its last index
  pub right_begins : (index d : ℕ) → index ≤ top_of t → d ≤ h → (row_of t d index).last < top_of t → (row_of t d ((row_of t d index).last + 1)).first ≡ (row_of t d index).last + 1
  right_begins index d within low more =
      let at = place index d within low in
      let row = row_of t d index in
      let next = next_row d (row.last + 1) (at.front ++ (row ∷ [])) at.back low (omega arith) (at.parts ∙ sym (append_assoc at.front (row ∷ []) at.back)) at.after in
      (subst (Fills (row.last + 1) (top_of t + 1)) next.1 at.after).0

  -- the row left of another ends before its first
  pub left_ends : (index d : ℕ) → index ≤ top_of t → d ≤ h → 0 < (row_of t d index).first → (row_of t d ((row_of t d index).first - 1)).last + 1 ≡ (row_of t d index).first
  left_ends index d within low some =
      let at = place index d within low in
      let row = row_of t d index in
      let from = at.from in
      let last = row_before d row.first at.front (row ∷ at.back) low some (omega arith) at.parts at.before in
      (fills_split 0 row.first last.0 (row_of t d (row.first - 1)) [] (subst (Fills 0 row.first) last.1 at.before)).2

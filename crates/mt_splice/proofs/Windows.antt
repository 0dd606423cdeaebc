-- The rows of a level before the one that holds an index, and those behind it: on the level below, and beside.
use Rattle.mt_splice.proofs.Prelude.{◌≡◌, ℕ, suc, ◌+◌, ◌-◌, ◌<◌, ◌≤◌, List, [], ◌∷◌, ◌++◌, sym, ap, ◌∙◌, subst, arith, append_assoc, Span, Fills, fills-append, fills_split, spans_in, expand, Tree, Stands, top_of, slot_for, at_once, At, place, child, rows_fill, next_row, row_before, rows_at, before, behind, row_at, low_of, high_of, in_place, in_rows}
use Rattle.mt_splice.proofs.PathRows.{lower_parts, take_slot, drop_slot}

pub at_before : {lo hi i : ℕ} {xs : List Span} {x : Span} (at : At lo hi xs i x) → at.front ≡ before i xs
at_before {lo} {hi} {i} {xs} {x} at = sym (take_slot xs at.front at.back x (slot_for xs i) at.parts (sym at.slot))

pub at_behind : {lo hi i : ℕ} {xs : List Span} {x : Span} (at : At lo hi xs i x) → at.back ≡ behind i xs
at_behind {lo} {hi} {i} {xs} {x} at = sym (drop_slot xs at.front at.back x (slot_for xs i) at.parts (sym at.slot))

module _ (t : Tree) (h : ℕ) (stands : Stands t h) where
  -- what stands on either side of an index is given by it
  pub once : (i d : ℕ) (front : List Span) (z : Span) (back : List Span) → i ≤ top_of t → d ≤ h → rows_at t d ≡ front ++ (z ∷ back) → z.first ≤ i → i ≤ z.last → (before i (rows_at t d) ≡ front) × (behind i (rows_at t d) ≡ back)
  once i d front z back within low parts from to =
      let at = place t h stands i d within low in
      let same = at_once 0 (top_of t + 1) (rows_at t d) i (row_at t d i) at front z back (rows_fill t h stands d low) parts from to in
      (sym (at_before at) ∙ same.0, sym (at_behind at) ∙ same.2)

  -- ---- one level lower

  module _ (i d k : ℕ) (within : i ≤ top_of t) (levels : h ≡ d + suc k) where
    abbrev here : At 0 (top_of t + 1) (rows_at t d) i (row_at t d i)
    here = place t h stands i d within (omega arith)

    abbrev next : At (low_of t d i) (high_of t d i) (spans_in t.table (row_at t d i)) i (row_at t (suc d) i)
    next = child t h stands i d within (omega arith)

    lower : (before i (rows_at t (suc d)) ≡ expand t.table here.front ++ next.front) × (behind i (rows_at t (suc d)) ≡ next.back ++ expand t.table here.back)
    lower = let from = next.from in let to = next.to in
        once i (suc d) (expand t.table here.front ++ next.front) (row_at t (suc d) i) (next.back ++ expand t.table here.back) within (omega arith) (lower_parts t h stands i d k within levels) from to

    pub before_lower : before i (rows_at t (suc d)) ≡ expand t.table (before i (rows_at t d)) ++ before i (spans_in t.table (row_at t d i))
    before_lower = lower.0 ∙ (λ j. expand t.table (at_before here j) ++ at_before next j)

    pub behind_lower : behind i (rows_at t (suc d)) ≡ behind i (spans_in t.table (row_at t d i)) ++ expand t.table (behind i (rows_at t d))
    behind_lower = lower.1 ∙ (λ j. at_behind next j ++ expand t.table (at_behind here j))

    pub fills_before : Fills (low_of t d i) (low_of t (suc d) i) (before i (spans_in t.table (row_at t d i)))
    fills_before = subst (Fills (low_of t d i) (low_of t (suc d) i)) (at_before next) next.before

    pub fills_behind : Fills (high_of t (suc d) i) (high_of t d i) (behind i (spans_in t.table (row_at t d i)))
    fills_behind = subst (Fills (high_of t (suc d) i) (high_of t d i)) (at_behind next) next.after

  -- new rows, with what stands beside them in the rows above
  module _ (i j d k : ℕ) (order : i ≤ j) (within : j ≤ top_of t) (levels : h ≡ d + suc k) (new : List Span) where
    abbrev pub run_above : List Span
    run_above = before i (spans_in t.table (row_at t d i)) ++ (new ++ behind j (spans_in t.table (row_at t d j)))

    pub level_above : in_rows t d i j run_above ≡ in_place t (suc d) i j new
    level_above =
        sym ((λ m. before_lower i d k (omega arith) levels m ++ (new ++ behind_lower j d k within levels m))
        ∙ regroup (expand t.table (before i (rows_at t d))) (before i (spans_in t.table (row_at t d i))) (behind j (spans_in t.table (row_at t d j))) (expand t.table (behind j (rows_at t d))))
      where
        regroup : (a b c e : List Span) → (a ++ b) ++ (new ++ (c ++ e)) ≡ a ++ ((b ++ (new ++ c)) ++ e)
        regroup a b c e = simp append_assoc

    pub fills_above : Fills (low_of t (suc d) i) (high_of t (suc d) j) new → Fills (low_of t d i) (high_of t d j) run_above
    fills_above fills =
        fills-append (low_of t d i) (low_of t (suc d) i) (high_of t d j) (before i (spans_in t.table (row_at t d i))) (new ++ behind j (spans_in t.table (row_at t d j))) (fills_before i d k (omega arith) levels)
        (fills-append (low_of t (suc d) i) (high_of t (suc d) j) (high_of t d j) new (behind j (spans_in t.table (row_at t d j))) fills (fills_behind j d k within levels))

  -- ---- the rows beside

  module _ (j d : ℕ) (within : j ≤ top_of t) (low : d ≤ h) (more : high_of t d j ≤ top_of t) where
    abbrev there : At 0 (top_of t + 1) (rows_at t d) j (row_at t d j)
    there = place t h stands j d within low

    found : (rest : List Span) × (there.back ≡ row_at t d (high_of t d j) ∷ rest)
    found = next_row t h stands d (high_of t d j) (there.front ++ (row_at t d j ∷ [])) there.back low more (there.parts ∙ sym (append_assoc there.front (row_at t d j ∷ []) there.back)) there.after

    fills_found : Fills (high_of t d j) (top_of t + 1) (row_at t d (high_of t d j) ∷ found.0)
    fills_found = subst (Fills (high_of t d j) (top_of t + 1)) found.1 there.after

    pub begins_behind : low_of t d (high_of t d j) ≡ high_of t d j
    begins_behind = fills_found.0

    pub row_behind : behind j (rows_at t d) ≡ row_at t d (high_of t d j) ∷ behind (high_of t d j) (rows_at t d)
    row_behind =
        let from = fills_found.0 in let to = fills_found.1 in
        let parts : rows_at t d ≡ (there.front ++ (row_at t d j ∷ [])) ++ (row_at t d (high_of t d j) ∷ found.0) =
        there.parts ∙ (ap (λ (l : List Span). there.front ++ (row_at t d j ∷ l)) found.1 ∙ sym (append_assoc there.front (row_at t d j ∷ []) (row_at t d (high_of t d j) ∷ found.0))) in
        let same = once (high_of t d j) d (there.front ++ (row_at t d j ∷ [])) (row_at t d (high_of t d j)) found.0 more low parts (omega arith) to in
        sym (at_behind there) ∙ (found.1 ∙ ap (λ (l : List Span). row_at t d (high_of t d j) ∷ l) (sym same.1))

  module _ (i d : ℕ) (within : i ≤ top_of t) (low : d ≤ h) (some : 0 < low_of t d i) where
    abbrev ahead : ℕ
    ahead = low_of t d i - 1

    abbrev at_i : At 0 (top_of t + 1) (rows_at t d) i (row_at t d i)
    at_i = place t h stands i d within low

    pub ahead_within : ahead ≤ top_of t
    ahead_within = let from = at_i.from in omega arith

    found_ahead : (rest : List Span) × (at_i.front ≡ rest ++ (row_at t d ahead ∷ []))
    found_ahead = let from = at_i.from in row_before t h stands d (low_of t d i) at_i.front (row_at t d i ∷ at_i.back) low some (omega arith) at_i.parts at_i.before

    fills_ahead : Fills 0 (low_of t d ahead) found_ahead.0 × (low_of t d ahead ≤ (row_at t d ahead).last) × Fills (high_of t d ahead) (low_of t d i) []
    fills_ahead = fills_split 0 (low_of t d i) found_ahead.0 (row_at t d ahead) [] (subst (Fills 0 (low_of t d i)) found_ahead.1 at_i.before)

    pub ends_ahead : high_of t d ahead ≡ low_of t d i
    ends_ahead = fills_ahead.2

    pub row_ahead : before i (rows_at t d) ≡ before ahead (rows_at t d) ++ (row_at t d ahead ∷ [])
    row_ahead =
        let from = fills_ahead.1 in let to = ends_ahead in
        let parts : rows_at t d ≡ found_ahead.0 ++ (row_at t d ahead ∷ (row_at t d i ∷ at_i.back)) =
        at_i.parts ∙ (ap (λ (l : List Span). l ++ (row_at t d i ∷ at_i.back)) found_ahead.1 ∙ append_assoc found_ahead.0 (row_at t d ahead ∷ []) (row_at t d i ∷ at_i.back)) in
        let same = once ahead d found_ahead.0 (row_at t d ahead) (row_at t d i ∷ at_i.back) ahead_within low parts (omega arith) (omega arith) in
        sym (at_before at_i) ∙ (found_ahead.1 ∙ ap (λ (l : List Span). l ++ (row_at t d ahead ∷ [])) (sym same.0))

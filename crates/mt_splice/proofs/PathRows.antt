-- The rows of two paths: where they stand, in which order, and what lies before and behind them one level lower.
use Rattle.mt_splice.proofs.Prelude.{[], ◌≡◌, ℕ, suc, ◌+◌, ◌<◌, ◌≤◌, List, ◌∷◌, ◌++◌, Option, Some, length, take, drop, refl, sym, ap, ◌∙◌, ⊎_elim, arith, append_assoc, cases_lt, take-append_seam, drop-append-add, RowKind, row_in, named_kind, Span, Fills, fills-append, fills_le, Table, spans_by, spans_in, expand, Tree, Stands, top_of, root_of, expand-append, level_next, one_of_parts, one_place, PathStep, step_in, At, row_of, place, child, rows_at, spans_on}
use Rattle.mt_splice.proofs.Splits.{split_more}
use Rattle.mt_splice.proofs.Stretches.{IsStretch}

-- of two spans of a list, the one that begins first ends before the other begins
ends_before : (lo : ℕ) (front back front' back' : List Span) (x y : Span) → front ++ (x ∷ back) ≡ front' ++ (y ∷ back') → Fills lo x.first front → Fills lo y.first front' → y.first < x.first → y.last < x.first
ends_before lo front back front' back' x y same fills fills' first =
    let more = split_more lo y.first x.first front' (y ∷ back') front (x ∷ back) (sym same) fills' fills (omega arith) in
    between more.0 more.2 more.3
  where
    between : (middle : List Span) → y ∷ back' ≡ middle ++ (x ∷ back) → Fills y.first x.first middle → y.last < x.first
    between [] parts fills = let none : y.first ≡ x.first = fills in absurd (omega arith)
    between (z ∷ zs) parts fills =
        let one : y ≡ z = cc in
        let behind = fills_le (z.last + 1) x.first zs fills.2 in
        let ends : y.last ≡ z.last = ap (λ (v : Span). v.last) one in
        omega arith

module _ (t : Tree) (h : ℕ) (stands : Stands t h) where
  -- ---- on a level

  -- the row of the lower index begins first
  pub rows_in_order : (i j d : ℕ) → i ≤ j → j ≤ top_of t → d ≤ h → (row_of t d i).first ≤ (row_of t d j).first
  rows_in_order i j d order within low =
      ⊎_elim
      (λ (later : (row_of t d j).first < (row_of t d i).first).
      let one = place t h stands i d (omega arith) low in let other = place t h stands j d within low in
      let clash = ends_before 0 one.front one.back other.front other.back (row_of t d i) (row_of t d j) (sym one.parts ∙ other.parts) one.before other.before later in
      let from = one.from in let to = other.to in
      absurd (omega arith))
      (λ (order : (row_of t d i).first ≤ (row_of t d j).first). order)
      (cases_lt (row_of t d j).first (row_of t d i).first)

  -- one row number is one leaf
  pub leaf_numbered : (i j : ℕ) → i ≤ top_of t → j ≤ top_of t → row_in (row_of t h i).word ≡ row_in (row_of t h j).word → row_of t h i ≡ row_of t h j
  leaf_numbered i j within within' same =
      let one = place t h stands i h within (omega arith) in let other = place t h stands j h within' (omega arith) in
      (one_place t h stands 0 0 (row_of t h i) (row_of t h j)
      (record { depth = h; height = omega arith; one = one_of_parts (rows_at t h) one.front one.back (row_of t h i) one.parts })
      (record { depth = h; height = omega arith; one = one_of_parts (rows_at t h) other.front other.back (row_of t h j) other.parts }) same).1

  -- the rows from one path's to the other's
  pub stretch_between : (i j d : ℕ) → i ≤ j → (within : j ≤ top_of t) → (low : d ≤ h) → (within' : i ≤ top_of t)
      → (old : List Span) × IsStretch t d (row_of t d i).first ((row_of t d j).last + 1) (place t h stands i d within' low).front old (place t h stands j d within low).back
  stretch_between i j d order within low within' =
      let x = row_of t d i in let y = row_of t d j in
      let one = place t h stands i d within' low in let other = place t h stands j d within low in
      let more = split_more 0 x.first y.first one.front (x ∷ one.back) other.front (y ∷ other.back) (sym one.parts ∙ other.parts) one.before other.before (rows_in_order i j d order within low) in
      let from = other.from in let to = other.to in (
        more.0 ++ (y ∷ []),
        record {
          parts = other.parts ∙ (ap (λ (l : List Span). l ++ (y ∷ other.back)) more.1 ∙ regroup one.front more.0 y other.back);
          before = one.before;
          here = fills-append x.first y.first (y.last + 1) more.0 (y ∷ []) more.3 (refl, omega arith, refl);
          after = other.after;
        },
      )
    where
      regroup : (f m : List Span) (y : Span) (b : List Span) → (f ++ m) ++ (y ∷ b) ≡ f ++ ((m ++ (y ∷ [])) ++ b)
      regroup f m y b = simp append_assoc

  -- ---- one level lower

  module _ (i d k : ℕ) (within : i ≤ top_of t) (height : h ≡ d + suc k) where
    abbrev here : At 0 (top_of t + 1) (rows_at t d) i (row_of t d i)
    here = place t h stands i d within (omega arith)

    abbrev next : At (row_of t d i).first ((row_of t d i).last + 1) (spans_in t.table (row_of t d i)) i (row_of t (suc d) i)
    next = child t h stands i d within (omega arith)

    -- what lies before the path's row and behind it
    abbrev pub before_it : List Span
    before_it = expand t.table here.front ++ next.front

    abbrev pub behind_it : List Span
    behind_it = next.back ++ expand t.table here.back

    pub lower_parts : rows_at t (suc d) ≡ before_it ++ (row_of t (suc d) i ∷ behind_it)
    lower_parts =
        level_next t.table d (root_of t)
        ∙ (ap (expand t.table) here.parts
        ∙ (expand-append t.table here.front (row_of t d i ∷ here.back)
        ∙ (ap (λ (l : List Span). expand t.table here.front ++ (l ++ expand t.table here.back)) next.parts
        ∙ regroup (expand t.table here.front) next.front (row_of t (suc d) i) next.back (expand t.table here.back))))
      where
        regroup : (a b : List Span) (x : Span) (c e : List Span) → a ++ ((b ++ (x ∷ c)) ++ e) ≡ (a ++ b) ++ (x ∷ (c ++ e))
        regroup a b x c e = simp append_assoc

-- ---- what stands in a path's row

-- by words that tell the same spans in the row
pub spans_of_step : (t : Table) (x : Span) (kind : RowKind) (s : PathStep) (i : ℕ) → named_kind x.word ≡ Some kind → s ≡ step_in t x i → (t' : Table) → spans_on t' kind s ≡ spans_in t' x
spans_of_step t x kind s i named at t' = ap (spans_on t' kind) at ∙ ap (λ (k : Option RowKind). spans_by t' k x) (sym named)

-- the part before a slot, and the part behind it
pub take_slot : (xs front back : List Span) (x : Span) (slot : ℕ) → xs ≡ front ++ (x ∷ back) → slot ≡ length front → take slot xs ≡ front
take_slot xs front back x slot parts at = (λ i. take (at i) (parts i)) ∙ take-append_seam front (x ∷ back)

pub drop_slot : (xs front back : List Span) (x : Span) (slot : ℕ) → xs ≡ front ++ (x ∷ back) → slot ≡ length front → drop (slot + 1) xs ≡ back
drop_slot xs front back x slot parts at = (λ i. drop (at i + 1) (parts i)) ∙ drop-append-add front (x ∷ back) 1

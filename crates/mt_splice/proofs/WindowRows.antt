-- The rows of a window: what they are, and how one is made of others.
use Rattle.mt_splice.proofs.Prelude.{[], ◌≡◌, ℕ, ◌+◌, ◌-◌, ◌<◌, ◌≤◌, List, ◌∷◌, ◌++◌, length, take, drop, refl, sym, ap, ◌∙◌, subst, ⊎_elim, arith, append_assoc, length-append, length-drop, cases_lt, drop-append_seam, take-append_seam, Span, Fills, fills_le, Tree, Stands, top_of, slot_for, At, place, inside_agree, before, behind, between, row_at, low_of, high_of, rows_at}
use Rattle.mt_splice.proofs.PathRows.{stretch_between}
use Rattle.mt_splice.proofs.Windows.{at_before, at_behind, once, row_behind, ends_ahead}
use Rattle.mt_splice.proofs.Stretches.{IsStretch}

-- of a list in three parts the middle one, by where it begins and behind what it ends
middle : (xs front old back : List Span) (n m : ℕ) → xs ≡ front ++ (old ++ back) → length front ≡ n → n + length old ≡ m → take (m - n) (drop n xs) ≡ old
middle xs front old back n m parts begin end =
    let many : m - n ≡ length old = omega arith in
    ap (λ (l : List Span). take (m - n) (drop n l)) parts
    ∙ (ap (λ (k : ℕ). take (m - n) (drop k (front ++ (old ++ back)))) (sym begin) ∙ (ap (take (m - n)) (drop-append_seam front (old ++ back)) ∙ (ap (λ (k : ℕ). take k (old ++ back)) many ∙ take-append_seam old back)))

module _ (t : Tree) (h : ℕ) (stands : Stands t h) where
  -- they are what stands between the rows before it and those behind
  pub between_by : (i j d : ℕ) (old : List Span) → i ≤ j → j ≤ top_of t → d ≤ h → rows_at t d ≡ before i (rows_at t d) ++ (old ++ behind j (rows_at t d)) → between i j (rows_at t d) ≡ old
  between_by i j d old order within low parts =
      let one = place t h stands i d (omega arith) low in let other = place t h stands j d within low in
      let front = ap length (at_before one) in let back = ap length (at_behind other) in
      middle (rows_at t d) (before i (rows_at t d)) old (behind j (rows_at t d)) (slot_for (rows_at t d) i) (slot_for (rows_at t d) j + 1) parts (sym front ∙ one.slot)
      (omega (arith, ap length parts, ap length other.parts, length-append (before i (rows_at t d)) (old ++ behind j (rows_at t d)), length-append old (behind j (rows_at t d)), length-append other.front (row_at t d j ∷ other.back), one.slot, other.slot, front, back))

  module _ (i j d : ℕ) (order : i ≤ j) (within : j ≤ top_of t) (low : d ≤ h) where
    i_within : i ≤ top_of t
    i_within = omega arith

    abbrev one : At 0 (top_of t + 1) (rows_at t d) i (row_at t d i)
    one = place t h stands i d i_within low

    abbrev other : At 0 (top_of t + 1) (rows_at t d) j (row_at t d j)
    other = place t h stands j d within low

    old_rows : (old : List Span) × IsStretch t d (low_of t d i) (high_of t d j) one.front old other.back
    old_rows = stretch_between t h stands i j d order within low i_within

    parts_here : rows_at t d ≡ before i (rows_at t d) ++ (old_rows.0 ++ behind j (rows_at t d))
    parts_here = old_rows.1.parts ∙ (λ m. at_before one m ++ (old_rows.0 ++ at_behind other m))

    pub window_parts : rows_at t d ≡ before i (rows_at t d) ++ (between i j (rows_at t d) ++ behind j (rows_at t d))
    window_parts = parts_here ∙ ap (λ (l : List Span). before i (rows_at t d) ++ (l ++ behind j (rows_at t d))) (sym (between_by i j d old_rows.0 order within low parts_here))

    pub before_fills : Fills 0 (low_of t d i) (before i (rows_at t d))
    before_fills = subst (Fills 0 (low_of t d i)) (at_before one) one.before

    pub behind_fills : Fills (high_of t d j) (top_of t + 1) (behind j (rows_at t d))
    behind_fills = subst (Fills (high_of t d j) (top_of t + 1)) (at_behind other) other.after

    -- one row more
    pub more_between : (more : high_of t d j ≤ top_of t) → between i (high_of t d j) (rows_at t d) ≡ between i j (rows_at t d) ++ (row_at t d (high_of t d j) ∷ [])
    more_between more =
        let next = high_of t d j in
        let to = other.to in
        between_by i next d (between i j (rows_at t d) ++ (row_at t d next ∷ [])) (omega arith) more low
        (window_parts ∙ (ap (λ (l : List Span). before i (rows_at t d) ++ (between i j (rows_at t d) ++ l)) (row_behind t h stands j d within low more)
        ∙ ap (λ (l : List Span). before i (rows_at t d) ++ l) (sym (append_assoc (between i j (rows_at t d)) (row_at t d next ∷ []) (behind next (rows_at t d))))))

  -- one row alone
  pub one_between : (i d : ℕ) → i ≤ top_of t → d ≤ h → between i i (rows_at t d) ≡ row_at t d i ∷ []
  one_between i d within low =
      let at = place t h stands i d within low in
      between_by i i d (row_at t d i ∷ []) (omega arith) within low (at.parts ∙ (λ m. at_before at m ++ (row_at t d i ∷ at_behind at m)))

  -- an index may stand for another in the same row
  pub sides_same : (i j d : ℕ) → i ≤ top_of t → d ≤ h → low_of t d i ≤ j → j < high_of t d i → (row_at t d j ≡ row_at t d i) × (before j (rows_at t d) ≡ before i (rows_at t d)) × (behind j (rows_at t d) ≡ behind i (rows_at t d))
  sides_same i j d within low from to =
      let at = place t h stands i d within low in
      let end = fills_le (high_of t d i) (top_of t + 1) at.back at.after in
      let same = once t h stands j d at.front (row_at t d i) at.back (omega arith) low at.parts from (omega arith) in
      ((inside_agree t h stands i j d within low from (omega arith)).0, same.0 ∙ at_before at, same.1 ∙ at_behind at)

  pub same_between : (i j i' j' d : ℕ) → i ≤ j → j ≤ top_of t → d ≤ h → i' ≤ j' → j' ≤ top_of t → before i' (rows_at t d) ≡ before i (rows_at t d) → behind j' (rows_at t d) ≡ behind j (rows_at t d) → between i' j' (rows_at t d) ≡ between i j (rows_at t d)
  same_between i j i' j' d order within low order' within' front back =
      between_by i' j' d (between i j (rows_at t d)) order' within' low (window_parts i j d order within low ∙ (λ m. sym front m ++ (between i j (rows_at t d) ++ sym back m)))

  -- ---- behind a row

  module _ (k j d : ℕ) (k_within : k ≤ top_of t) (within : j ≤ top_of t) (low : d ≤ h) (more : high_of t d k ≤ j) where
    abbrev next : ℕ
    next = high_of t d k

    abbrev rows : List Span
    rows = rows_at t d

    slot_next : slot_for rows next ≡ slot_for rows k + 1
    slot_next =
        let here = place t h stands k d k_within low in let there = place t h stands next d (omega arith) low in
        omega (
          arith,
          ap length (row_behind t h stands k d k_within low (omega arith)),
          length-drop (slot_for rows k + 1) rows,
          length-drop (slot_for rows next + 1) rows,
          ap length here.parts,
          ap length there.parts,
          length-append here.front (row_at t d k ∷ here.back),
          length-append there.front (row_at t d next ∷ there.back),
          here.slot,
          there.slot,
        )

    pub behind_split : behind k rows ≡ between next j rows ++ behind j rows
    behind_split =
        let there = place t h stands next d (omega arith) low in
        let n = slot_for rows next in
        let long : length (before next rows) ≡ n = sym (ap length (at_before there)) ∙ there.slot in
        ap (λ (m : ℕ). drop m rows) (sym slot_next)
        ∙ (ap (λ (l : List Span). drop n l) (window_parts next j d more within low)
        ∙ (ap (λ (m : ℕ). drop m (before next rows ++ (between next j rows ++ behind j rows))) (sym long) ∙ drop-append_seam (before next rows) (between next j rows ++ behind j rows)))

    -- a row, and those behind it
    pub first_between : between k j rows ≡ row_at t d k ∷ between next j rows
    first_between =
        let here = place t h stands k d k_within low in let from = here.from in let to = here.to in
        between_by k j d (row_at t d k ∷ between next j rows) (omega arith) within low (here.parts ∙ (λ m. at_before here m ++ (row_at t d k ∷ (at_behind here ∙ behind_split) m)))

    -- the rows up to it, and those behind
    pub split_between : (i : ℕ) → i ≤ k → between i j rows ≡ between i k rows ++ between next j rows
    split_between i order =
        let to = (place t h stands k d k_within low).to in
        between_by i j d (between i k rows ++ between next j rows) (omega arith) within low
        (window_parts i k d order k_within low
        ∙ (ap (λ (l : List Span). before i rows ++ (between i k rows ++ l)) behind_split ∙ ap (λ (l : List Span). before i rows ++ l) (sym (append_assoc (between i k rows) (between next j rows) (behind j rows)))))

  -- the rows before the last one, and it
  pub last_between : (i j d : ℕ) → j ≤ top_of t → d ≤ h → 0 < low_of t d j → i ≤ low_of t d j - 1 → between i j (rows_at t d) ≡ between i (low_of t d j - 1) (rows_at t d) ++ (row_at t d j ∷ [])
  last_between i j d within low some order =
      let at = place t h stands j d within low in let from = at.from in let to = at.to in
      let ahead = low_of t d j - 1 in
      let ends : high_of t d ahead ≡ low_of t d j = ends_ahead t h stands j d within low some in
      let sides = sides_same j (low_of t d j) d within low (omega arith) (omega arith) in
      split_between ahead j d (omega arith) within low (omega arith) i order
      ∙ ap (λ (l : List Span). between i ahead (rows_at t d) ++ l)
      (ap (λ (n : ℕ). between n j (rows_at t d)) ends ∙ (same_between j j (low_of t d j) j d (omega arith) within low from within sides.1 refl ∙ one_between j d within low))

  -- the rows from an index on begin with its row
  pub head_between : (k j d : ℕ) → k ≤ j → j ≤ top_of t → d ≤ h → (rest : List Span) × (between k j (rows_at t d) ≡ row_at t d k ∷ rest)
  head_between k j d order within low =
      ⊎_elim (λ (more : (row_at t d k).last < j). (between (high_of t d k) j (rows_at t d), first_between k j d (omega arith) within low (omega arith)))
      (λ (inside : j ≤ (row_at t d k).last).
      let from = (place t h stands k d (omega arith) low).from in
      let sides = sides_same k j d (omega arith) low (omega arith) (omega arith) in
      ([], same_between k k k j d (omega arith) (omega arith) low order within refl sides.2 ∙ one_between k d (omega arith) low))
      (cases_lt (row_at t d k).last j)

  -- the row of the lower index ends no later, where that of the other ends with it
  pub ends_by : (i j d : ℕ) → i ≤ j → j ≤ top_of t → d ≤ h → (row_at t d j).last ≡ j → (row_at t d i).last ≤ j
  ends_by i j d order within low ends =
      ⊎_elim (λ (apart : (row_at t d i).last < j). omega arith)
      (λ (inside : j ≤ (row_at t d i).last).
      let from = (place t h stands i d (omega arith) low).from in
      let same = ap (λ (z : Span). z.last) (sides_same i j d (omega arith) low (omega arith) (omega arith)).0 in omega arith)
      (cases_lt (row_at t d i).last j)

  -- up to the end of one row, and of the next
  pub next_between : (a i d : ℕ) → a ≤ i → i ≤ top_of t → d ≤ h → (more : high_of t d i ≤ top_of t)
      → between a (row_at t d (high_of t d i)).last (rows_at t d) ≡ between a (row_at t d i).last (rows_at t d) ++ (row_at t d (high_of t d i) ∷ [])
  next_between a i d order within low more =
      let here = place t h stands i d within low in let from = here.from in let to = here.to in
      let n = high_of t d i in
      let there = place t h stands n d more low in let from' = there.from in let to' = there.to in
      let end = fills_le (high_of t d n) (top_of t + 1) there.back there.after in
      let left = sides_same i (row_at t d i).last d within low (omega arith) (omega arith) in
      let right = sides_same n (row_at t d n).last d more low (omega arith) (omega arith) in
      same_between a n a (row_at t d n).last d (omega arith) more low (omega arith) (omega arith) refl right.2
      ∙ (more_between a i d order within low more ∙ ap (λ (l : List Span). l ++ (row_at t d n ∷ [])) (sym (same_between a i a (row_at t d i).last d order within low (omega arith) (omega arith) refl left.2)))

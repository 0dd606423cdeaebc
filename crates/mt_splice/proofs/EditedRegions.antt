-- The spans of the leaves at a store's ends after the store: those of all leaves from the one to the other.
use Rattle.mt_splice.proofs.Prelude.{◌≡◌, ℕ, ◌+◌, ◌-◌, ◌≤◌, ◌==◌, ◌&&◌, List, [], ◌∷◌, ◌++◌, Bool, true, false, length, nat_lt, refl, sym, ap, ◌∙◌, subst, inl, inr, arith, append-nil, append_assoc, if◌then◌else◌, ◌<◌, AllByRecursion, cases_Bool, eqb-true, eqb-false, all_map, all_front, all_back, all_join, Leaf, Span, row_in, Fills, slots_of, sizes, fills-append, fills_le, spans_in, expand, Tree, IsRow, Stands, top_of, root_of, Filled, expand_fills, expand-append, level_rows, spans_below, spans_above, span_stored, stored, join, holes_joined, edited, starting, ends_with_hole, length_edited, stored_between, two_short, two_to_a_hole, PathStep, step_in, step_at, path_in, row_of, step, place, lawful, levels, region_of, last_step, leaf_spans, rows_at, most_items, most_before_hole, At, row_most}
use Rattle.mt_splice.proofs.Splits.{split_more}
use Rattle.mt_splice.proofs.PathRows.{rows_in_order, spans_of_step, leaf_numbered}
use Rattle.mt_splice.proofs.Stretches.{IsStretch}

-- The spans of leaves after a store, of which the last leaf ended at `last`: where others stand behind it, they end with
-- an entry or are few.
pub record IsLeafRun (t : Tree) (last : ℕ) (run : List Span) : Type 0 where
  pub few : length run ≤ most_items t.table.width Leaf
  pub ends : last < top_of t → ends_with_hole run ≡ true → length run ≤ most_before_hole t.table.width

-- ---- what holds of each span of leaves

-- what holds of a span whatever its ends holds of those that are joined
module _ (P : Span → Type 0) (ends : (x : Span) (last : ℕ) → P x → P (record x { last = last })) where
  all_joining : (x : Span) (xs : List Span) → P x → AllByRecursion P xs → AllByRecursion P (join x xs)
  all_joining x [] here each = (here, tt)
  all_joining x (y ∷ ys) here each = elim (cases_Bool ((x.word == 0) && (y.word == 0))) [ inl t ↦ rw t (ends x y.last here, each.1) | inr f ↦ rw f (here, each) ]

  pub all_joined : (xs : List Span) → AllByRecursion P xs → AllByRecursion P (holes_joined xs)
  all_joined [] each = tt
  all_joined (x ∷ xs) each = all_joining x (holes_joined xs) each.0 (all_joined xs each.1)

module _ (P : Span → Type 0) (ends : (x : Span) (last : ℕ) → P x → P (record x { last = last })) (begins : (x : Span) (first : ℕ) → P x → P (record x { first = first })) where
  all_below : (xs : List Span) (first : ℕ) → AllByRecursion P xs → AllByRecursion P (spans_below xs first)
  all_below [] first each = tt
  all_below (x ∷ xs) first each = elim (cases_Bool (nat_lt x.first first)) [ inl t ↦ rw t (ends x _ each.0, all_below xs first each.1) | inr f ↦ rw f (all_below xs first each.1) ]

  all_above : (xs : List Span) (last : ℕ) → AllByRecursion P xs → AllByRecursion P (spans_above xs last)
  all_above [] last each = tt
  all_above (x ∷ xs) last each = elim (cases_Bool (nat_lt last x.last)) [ inl t ↦ rw t (begins x _ each.0, all_above xs last each.1) | inr f ↦ rw f (all_above xs last each.1) ]

  pub all_edited : (xs : List Span) (first last entry : ℕ) → P (span_stored first last entry) → AllByRecursion P xs → AllByRecursion P (edited xs first last entry)
  all_edited xs first last entry here each =
      all_joined P ends (stored xs first last entry)
      (all_join P (spans_below xs first) (span_stored first last entry ∷ spans_above xs last) (all_below xs first each) (here, all_above xs last each))

-- ---- the leaves at a store's ends

module _ (t : Tree) (h : ℕ) (stands : Stands t h) (first last : ℕ) (order : first ≤ last) (within : last ≤ top_of t) where
  abbrev from_within : first ≤ top_of t
  from_within = omega arith

  abbrev low : h ≤ h
  low = omega arith

  abbrev left_leaf : Span
  left_leaf = row_of t h first

  abbrev right_leaf : Span
  right_leaf = row_of t h last

  abbrev left_at : At 0 (top_of t + 1) (rows_at t h) first left_leaf
  left_at = place t h stands first h from_within low

  abbrev right_at : At 0 (top_of t + 1) (rows_at t h) last right_leaf
  right_at = place t h stands last h within low

  -- the leaves from the one to the other, and whether they are one
  pub record Leaves (entry : ℕ) (region : List Span) : Type 0 where
    pub front : List Span
    pub old : List Span
    pub back : List Span
    pub stretch : IsStretch t h left_leaf.first (right_leaf.last + 1) front old back
    pub edits : edited region first last entry ≡ edited (expand t.table old) first last entry
    pub run : IsLeafRun t right_leaf.last (edited region first last entry)

  leaf_rows : AllByRecursion (IsRow t 0) (rows_at t h)
  leaf_rows = level_rows (IsRow t) t.table h 0 h (root_of t) (omega arith) stands.rows

  leaf_law : (index : ℕ) → index ≤ top_of t → IsRow t 0 (row_of t h index)
  leaf_law index inside = lawful t h stands index h 0 inside (omega arith)

  abbrev slots : ℕ
  slots = slots_of t.table.width Leaf

  leaf_most : (index : ℕ) → index ≤ top_of t → length (spans_in t.table (row_of t h index)) ≤ slots
  leaf_most index inside = (row_most (leaf_law index inside).name)

  one_leaf : (entry : ℕ) → left_leaf ≡ right_leaf → Leaves entry (spans_in t.table left_leaf)
  one_leaf entry same = record {
    front = left_at.front;
    old = left_leaf ∷ [];
    back = left_at.back;
    stretch = subst (λ (x : Span). IsStretch t h left_leaf.first (x.last + 1) left_at.front (left_leaf ∷ []) left_at.back) same
        (record { parts = left_at.parts; before = left_at.before; here = (refl, (let from = left_at.from in let to = left_at.to in omega arith), refl); after = left_at.after });
    edits = ap (λ (l : List Span). edited l first last entry) (sym (append-nil (spans_in t.table left_leaf)));
    run =
        (let count = length_edited left_leaf.first (left_leaf.last + 1) first last entry (spans_in t.table left_leaf) (leaf_law first from_within).pivots.fills order in
        let most = leaf_most first from_within in
        let enough = sizes t.table.width Leaf in
        record { few = omega arith; ends = λ more hole. omega arith });
  }

  -- the leaves between the two
  between : left_leaf.first ≤ right_leaf.first → (left_leaf ≡ right_leaf → ⊥) → (middle : List Span) × (right_at.front ≡ left_at.front ++ (left_leaf ∷ middle)) × Fills (left_leaf.last + 1) right_leaf.first middle
  between order apart =
      let more = split_more 0 left_leaf.first right_leaf.first left_at.front (left_leaf ∷ left_at.back) right_at.front (right_leaf ∷ right_at.back) (sym left_at.parts ∙ right_at.parts) left_at.before right_at.before order in
      cases more.0 more.1 more.2 more.3
    where
      cases : (middle : List Span) → right_at.front ≡ left_at.front ++ middle → left_leaf ∷ left_at.back ≡ middle ++ (right_leaf ∷ right_at.back) → Fills left_leaf.first right_leaf.first middle
          → (middle : List Span) × (right_at.front ≡ left_at.front ++ (left_leaf ∷ middle)) × Fills (left_leaf.last + 1) right_leaf.first middle
      cases [] front parts fills = let same : left_leaf ≡ right_leaf = cc in absurd (apart same)
      cases (x ∷ middle) front parts fills =
          let same : x ≡ left_leaf = cc in
          (middle, front ∙ ap (λ (y : Span). left_at.front ++ (y ∷ middle)) same, subst (λ (y : Span). Fills (y.last + 1) right_leaf.first middle) same fills.2)

  several_leaves : (entry : ℕ) → (left_leaf ≡ right_leaf → ⊥) → Leaves entry (spans_in t.table left_leaf ++ starting (left_leaf.last + 1) (spans_in t.table right_leaf))
  several_leaves entry apart =
      let middle = between (rows_in_order t h stands first last h order within low) apart in
      let parts : rows_at t h ≡ left_at.front ++ ((left_leaf ∷ middle.0 ++ (right_leaf ∷ [])) ++ right_at.back) =
      right_at.parts ∙ (ap (λ (l : List Span). l ++ (right_leaf ∷ right_at.back)) middle.1 ∙ regroup left_at.front left_leaf middle.0 right_leaf right_at.back) in
      let rows = all_back (IsRow t 0) left_at.front ((left_leaf ∷ middle.0 ++ (right_leaf ∷ [])) ++ right_at.back) (subst (AllByRecursion (IsRow t 0)) parts leaf_rows) in
      let own = all_front (IsRow t 0) (left_leaf ∷ middle.0 ++ (right_leaf ∷ [])) right_at.back rows in
      let middle_rows = all_front (IsRow t 0) middle.0 (right_leaf ∷ []) own.1 in
      let right_row = (all_back (IsRow t 0) middle.0 (right_leaf ∷ []) own.1).0 in
      let filled = all_map (IsRow t 0) (Filled t.table) (λ x row. row.pivots.fills) middle.0 middle_rows in
      let from = left_at.from in let to = left_at.to in let from' = right_at.from in let to' = right_at.to in
      record {
        front = left_at.front;
        old = left_leaf ∷ middle.0 ++ (right_leaf ∷ []);
        back = right_at.back;
        stretch = record {
          parts = parts;
          before = left_at.before;
          here = (refl, omega arith, fills-append (left_leaf.last + 1) right_leaf.first (right_leaf.last + 1) middle.0 (right_leaf ∷ []) middle.2 (refl, omega arith, refl));
          after = right_at.after;
        };
        edits = ap holes_joined
            (stored_between left_leaf.first (left_leaf.last + 1) right_leaf.first (right_leaf.last + 1) first last entry (spans_in t.table left_leaf) (expand t.table middle.0) (spans_in t.table right_leaf)
            own.0.pivots.fills (expand_fills t.table (left_leaf.last + 1) right_leaf.first middle.0 filled middle.2) right_row.pivots.fills (omega arith) from' (omega arith)
            ∙ ap (λ (l : List Span). stored (spans_in t.table left_leaf ++ l) first last entry) (sym (expand-append t.table middle.0 (right_leaf ∷ []) ∙ ap (λ (l : List Span). expand t.table middle.0 ++ l) (append-nil (spans_in t.table right_leaf)))));
        run =
            (let most = leaf_most first from_within in let most' = leaf_most last within in
            let enough = sizes t.table.width Leaf in
            let apart = fills_le (left_leaf.last + 1) right_leaf.first middle.0 middle.2 in
            let count = two_short left_leaf.first (left_leaf.last + 1) right_leaf.first (right_leaf.last + 1) first last entry slots (spans_in t.table left_leaf) (spans_in t.table right_leaf)
            own.0.pivots.fills right_row.pivots.fills (omega arith) apart from' (omega arith) most most' in
            record {
              few = omega arith;
              ends = λ more hole.
                  (let count = two_to_a_hole left_leaf.first (left_leaf.last + 1) right_leaf.first (right_leaf.last + 1) first last entry slots (spans_in t.table left_leaf) (spans_in t.table right_leaf)
                  own.0.pivots.fills right_row.pivots.fills (omega arith) apart from' (omega arith) most most' hole (right_row.holes.ends more) in
                  omega arith);
            });
      }
    where
      regroup : (f : List Span) (y : Span) (m : List Span) (z : Span) (b : List Span) → (f ++ (y ∷ m)) ++ (z ∷ b) ≡ f ++ ((y ∷ m ++ (z ∷ [])) ++ b)
      regroup f y m z b = simp append_assoc

  -- ---- as the paths tell them

  module _ (left right : List PathStep) (is_left : left ≡ path_in t.table t.root first) (is_right : right ≡ path_in t.table t.root last) where
    last_of : (path : List PathStep) (index : ℕ) → index ≤ top_of t → path ≡ path_in t.table t.root index → last_step path ≡ step_in t.table (row_of t h index) index
    last_of path index inside is =
        let long : length path - 1 ≡ h = (let all = ap length is in let many = levels t h stands index inside in omega arith) in
        ap (step_at path) long ∙ (ap (λ (l : List PathStep). step_at l h) is ∙ step t h stands index h inside low)

    leaf_of : (path : List PathStep) (index : ℕ) → (inside : index ≤ top_of t) → path ≡ path_in t.table t.root index → leaf_spans t.table (last_step path) ≡ spans_in t.table (row_of t h index)
    leaf_of path index inside is =
        spans_of_step t.table (row_of t h index) Leaf (last_step path) index (lawful t h stands index h 0 inside (omega arith)).name.named (last_of path index inside is) t.table

    same_leaf : row_in left_leaf.word ≡ row_in right_leaf.word → left_leaf ≡ right_leaf
    same_leaf = leaf_numbered t h stands first last from_within within

    region_by : (entry : ℕ) (b : Bool) → (row_in left_leaf.word == row_in right_leaf.word) ≡ b
        → Leaves entry (if b then spans_in t.table left_leaf else spans_in t.table left_leaf ++ starting (left_leaf.last + 1) (spans_in t.table right_leaf))
    region_by entry true same = one_leaf entry (same_leaf (eqb-true (row_in left_leaf.word) (row_in right_leaf.word) same))
    region_by entry false other = several_leaves entry (λ same. eqb-false (row_in left_leaf.word) (row_in right_leaf.word) other (ap (λ (x : Span). row_in x.word) same))

    long_path : (path : List PathStep) → path ≡ path_in t.table t.root first → 1 ≤ length path
    long_path path is = let all = ap length is in let many = levels t h stands first from_within in omega arith

    region_is : (path : List PathStep) → path ≡ path_in t.table t.root first
        → region_of t.table path right ≡ (if row_in left_leaf.word == row_in right_leaf.word then spans_in t.table left_leaf else spans_in t.table left_leaf ++ starting (left_leaf.last + 1) (spans_in t.table right_leaf))
    region_is [] is = let some = long_path [] is in absurd (omega arith)
    region_is (s ∷ path) is =
        let l = last_of (s ∷ path) first from_within is in let r = last_of right last within is_right in
        λ k. if (l k).row == (r k).row then leaf_of (s ∷ path) first from_within is k else leaf_of (s ∷ path) first from_within is k ++ starting ((l k).max + 1) (leaf_of right last within is_right k)

    pub region_leaves : (entry : ℕ) → Leaves entry (region_of t.table left right)
    region_leaves entry = subst (Leaves entry) (sym (region_is left is_left)) (region_by entry (row_in left_leaf.word == row_in right_leaf.word) refl)

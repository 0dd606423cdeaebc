-- Lawful words have no faults.
use Rattle.mt_check.proofs.Prelude.{◌≡◌, ℕ, zero, suc, ◌+◌, ◌<◌, ◌≤◌, ◌==◌, List, [], ◌∷◌, ◌++◌, Bool, true, false, refl, ap, ◌∙◌, subst, inl, inr, arith, append-nil, nat_le, AllByRecursion, cases_Bool, and_from, le-leb, eq-eqb, deepest, Span, row_in, named_kind, parent_at, column, inner_of, spans_in, root_span, Levels, by_kind, Tree, IsRow, IsTended, IsLawful, ParentsFrom, GapLaw, GapLawBy, kind_on, by_leaf, by_inner, height_by_depth, levels_front, levels_back, Fault, depth_at, has_depth, longest_at, has_gaps, Way, at_row, own_faults, gaps_by, faults_below, faults_at, root_way, faults_in}
use Rattle.mt_check.specs.declared.faults.Law.TheVariants as law
use Rattle.mt_check.proofs.Lists.{both_none, holds}
use Rattle.mt_check.proofs.OneRow.{told_gaps, none_told}
use Rattle.mt_check.proofs.Longest.{each_longest}
use Rattle.mt_check.proofs.Passes.{passes_none, row_passes}
use Rattle.mt_check.proofs.Placed.{Placed, root_placed, children_placed}
use Rattle.mt_check.proofs.Sound.{height, height_fits}

module _ (t : Tree) where
  abbrev Complete : ℕ → ℕ → Type 0
  Complete left h = (way : Way) (x : Span) → Placed t left x → Levels (IsRow t) t.table h (x ∷ []) → column t.table (row_in x.word) 0 ≡ way.parent → Levels (IsTended t) t.table h (x ∷ []) → faults_at t left way x ≡ []

  complete_below : (left h : ℕ) → Complete left h → (row slot : ℕ) (xs : List Span) → AllByRecursion (Placed t left) xs → Levels (IsRow t) t.table h xs → ParentsFrom t.table row slot xs → Levels (IsTended t) t.table h xs
      → faults_below (faults_at t left) row slot xs ≡ []
  complete_below left h complete row slot [] placed rows parents tended = refl
  complete_below left h complete row slot (x ∷ xs) placed rows parents tended =
      let way : Way = record { from = row; parent = parent_at row slot } in
      both_none (faults_at t left way x) (faults_below (faults_at t left) row (slot + 1) xs)
      (complete way x placed.0 (levels_front (IsRow t) t.table h (x ∷ []) xs rows) parents.0 (levels_front (IsTended t) t.table h (x ∷ []) xs tended))
      (complete_below left h complete row (slot + 1) xs placed.1 (levels_back (IsRow t) t.table h (x ∷ []) xs rows) parents.1 (levels_back (IsTended t) t.table h (x ∷ []) xs tended))

  -- a row of a height stands at its depth
  deep_enough : (left h : ℕ) → left ≤ deepest → depth_at left + h ≡ height t → has_depth (height t) left (kind_on t.gapped h) ≡ true
  deep_enough left zero low deep =
      let fits = height_fits t in
      and_from (nat_le (depth_at left) deepest) (depth_at left == height t) (le-leb (depth_at left) deepest (omega arith)) (eq-eqb (depth_at left) (height t) (omega arith))
  deep_enough left (suc h) low deep = by t.gapped
    where
      by : (gapped : Bool) → has_depth (height t) left (inner_of gapped) ≡ true
      by false = le-leb (depth_at left) deepest (let fits = height_fits t in omega arith)
      by true = le-leb (depth_at left) deepest (let fits = height_fits t in omega arith)

  gap_test : (left h : ℕ) (x : Span) → h < left → Levels (IsRow t) t.table h (spans_in t.table x) → GapLaw t (suc h) x → has_gaps (longest_at t.table left) t.table (inner_of t.gapped) x ≡ true
  gap_test left h x low rows law = by t.gapped law
    where
      by : (gapped : Bool) → GapLawBy (inner_of gapped) t.table h x → has_gaps (longest_at t.table left) t.table (inner_of gapped) x ≡ true
      by false law = none_told (longest_at t.table left) t.table (row_in x.word) 0 (spans_in t.table x)
      by true law = told_gaps (longest_at t.table left) t.table (row_in x.word) h 0 (spans_in t.table x) (each_longest t left h (spans_in t.table x) low rows) law

  complete_at : (left h : ℕ) → left ≤ deepest → depth_at left + h ≡ height t → Complete left h
  unfolding faults_at
  complete_at zero h low deep way x placed rows parent tended = let fits = height_fits t in absurd (omega arith)
  complete_at (suc left) zero low deep way x placed rows parent tended =
      let own = passes_none t (suc left) way x (row_passes t (suc left) zero way x placed.root rows.0 (deep_enough (suc left) zero low deep) parent) in
      both_none (own_faults t (suc left) way x) _ own (by_leaf (named_kind x.word) [] _ rows.0.name.named)
  complete_at (suc left) (suc h) low deep way x placed rows parent tended =
      let named = rows.0.0.name.named in
      let own = passes_none t (suc left) way x (row_passes t (suc left) (suc h) way x placed.root rows.0.0 (deep_enough (suc left) (suc h) low deep) parent) in
      let children : List Fault = faults_below (faults_at t left) (row_in x.word) 0 (spans_in t.table x) in
      let gaps : List Fault = at_row (row_in x.word) (gaps_by (longest_at t.table left) t x (named_kind x.word)) in
      let fits = height_fits t in
      let rows_below = subst (Levels (IsRow t) t.table h) (append-nil (spans_in t.table x)) rows.1 in
      let tended_below = subst (Levels (IsTended t) t.table h) (append-nil (spans_in t.table x)) tended.1 in
      let first : children ≡ [] = complete_below left h (complete_at left h (omega arith) (omega arith)) (row_in x.word) 0 (spans_in t.table x) (children_placed t left h x (omega arith) placed rows.0.0) rows_below tended.0.0.parent tended_below in
      let last : gaps ≡ [] = ap (at_row (row_in x.word)) (ap (gaps_by (longest_at t.table left) t x) named ∙ holds (has_gaps (longest_at t.table left) t.table (inner_of t.gapped) x) law.Gaps (gap_test left h x (omega arith) rows_below tended.0.0.gaps)) in
      both_none (own_faults t (suc left) way x) (by_kind (named_kind x.word) [] (children ++ gaps)) own (by_inner t.gapped (named_kind x.word) [] (children ++ gaps) named ∙ both_none children gaps first last)

  pub complete : IsLawful t → faults_in t ≡ []
  unfolding faults_in
  complete (inl empty) = rw empty refl
  complete (inr tree) = elim (cases_Bool (t.root == 0)) [
    | inl empty ↦ rw empty refl
    | inr some ↦
        let tall = height_by_depth t deepest tree.0 (root_span t.table t.root) tree.1.low tree.1.rows in
        rw some (complete_at deepest tree.0 (omega arith) (omega arith) root_way (root_span t.table t.root) (root_placed t) tree.1.rows tree.2 tree.3)
  ]

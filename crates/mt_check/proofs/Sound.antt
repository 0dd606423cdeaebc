-- Words without faults are lawful.
use Rattle.mt_check.proofs.Prelude.{◌≡◌, ◌≢◌, ◌⊎◌, ℕ, zero, suc, ◌+◌, ◌-◌, ◌<◌, ◌≤◌, ◌==◌, List, [], ◌∷◌, ◌++◌, Some, Bool, true, false, length, refl, sym, ap, ◌∙◌, subst, inl, inr, arith, append-nil, nat_le, AllByRecursion, cases_Bool, and_parts, eqb-true, deepest, RowKind, Leaf, Inner, Gapped, Span, row_in, named_kind, parent_at, column, inner_of, spans_in, root_span, Levels, by_kind, height_in, Tree, IsRow, IsTended, IsLawful, ParentsFrom, GapLaw, GapLawBy, by_inner, some_least, levels_join, levels_none, Fault, depth_at, has_depth, longest_at, has_gaps, Way, at_row, own_faults, gaps_by, faults_below, faults_at, root_way, faults_in}
use Rattle.mt_check.specs.declared.faults.Law.TheVariants as law
use Rattle.mt_check.proofs.Lists.{append_none, map_none, held}
use Rattle.mt_check.proofs.OneRow.{gaps_told}
use Rattle.mt_check.proofs.Longest.{each_longest}
use Rattle.mt_check.proofs.Passes.{Passes, none_passes, passes_row, stands_inner}
use Rattle.mt_check.proofs.Placed.{Placed, root_placed, children_placed, height_low}

leaf_or_not : (kind : RowKind) → (kind ≡ Leaf) ⊎ (kind ≢ Leaf)
leaf_or_not Leaf = inl refl
leaf_or_not Inner = inr (λ e. cc)
leaf_or_not Gapped = inr (λ e. cc)

module _ (t : Tree) where
  abbrev pub height : ℕ
  height = height_in t.table t.root

  pub height_fits : height ≤ deepest
  height_fits = height_low t.table deepest (root_span t.table t.root)

  -- the height of the rows that stand at a depth
  abbrev above : ℕ → ℕ
  above left = height - depth_at left

  record Kept (left : ℕ) (way : Way) (x : Span) : Type 0 where
    deep : depth_at left ≤ height
    rows : Levels (IsRow t) t.table (above left) (x ∷ [])
    parent : column t.table (row_in x.word) 0 ≡ way.parent
    tended : Levels (IsTended t) t.table (above left) (x ∷ [])

  record KeptBelow (left row slot : ℕ) (xs : List Span) : Type 0 where
    deep : 1 ≤ length xs → depth_at left ≤ height
    rows : Levels (IsRow t) t.table (above left) xs
    parents : ParentsFrom t.table row slot xs
    tended : Levels (IsTended t) t.table (above left) xs

  abbrev Sound : ℕ → Type 0
  Sound left = (way : Way) (x : Span) → Placed t left x → faults_at t left way x ≡ [] → Kept left way x

  sound_below : (left : ℕ) → Sound left → (row slot : ℕ) (xs : List Span) → AllByRecursion (Placed t left) xs → faults_below (faults_at t left) row slot xs ≡ [] → KeptBelow left row slot xs
  sound_below left sound row slot [] placed none = record {
    deep = λ some. absurd (omega arith);
    rows = levels_none (IsRow t) t.table (above left);
    parents = tt;
    tended = levels_none (IsTended t) t.table (above left);
  }
  sound_below left sound row slot (x ∷ xs) placed none =
      let way : Way = record { from = row; parent = parent_at row slot } in
      let parts = append_none (faults_at t left way x) (faults_below (faults_at t left) row (slot + 1) xs) none in
      let first = sound way x placed.0 parts.0 in
      let behind = sound_below left sound row (slot + 1) xs placed.1 parts.1 in
      record {
        deep = λ _. first.deep;
        rows = levels_join (IsRow t) t.table (above left) (x ∷ []) xs first.rows behind.rows;
        parents = (first.parent, behind.parents);
        tended = levels_join (IsTended t) t.table (above left) (x ∷ []) xs first.tended behind.tended;
      }

  -- no row stands too deep
  pub too_deep : (kind : RowKind) → has_depth height 0 kind ≡ true → ⊥
  too_deep Leaf deep = cc
  too_deep Inner deep = cc
  too_deep Gapped deep = cc

  gap_law : (left h : ℕ) (x : Span) → named_kind x.word ≡ Some (inner_of t.gapped) → h < left → Levels (IsRow t) t.table h (spans_in t.table x)
      → gaps_by (longest_at t.table left) t x (named_kind x.word) ≡ [] → GapLaw t (suc h) x
  gap_law left h x named low rows none = by t.gapped (held (has_gaps (longest_at t.table left) t.table (inner_of t.gapped) x) law.Gaps (sym (ap (gaps_by (longest_at t.table left) t x) named) ∙ none))
    where
      by : (gapped : Bool) → has_gaps (longest_at t.table left) t.table (inner_of gapped) x ≡ true → GapLawBy (inner_of gapped) t.table h x
      by false told = tt
      by true told = gaps_told (longest_at t.table left) t.table (row_in x.word) h 0 (spans_in t.table x) (each_longest t left h (spans_in t.table x) low rows) told

  -- ---- one row

  leaf_kept : (left : ℕ) (way : Way) (x : Span) → Placed t left x → (p : Passes t left way x) → p.kind ≡ Leaf → Kept left way x
  leaf_kept left way x placed p leaf =
      let parts = and_parts (nat_le (depth_at left) deepest) (depth_at left == height) (subst (λ (k : RowKind). has_depth height left k ≡ true) leaf p.depth) in
      let deep = eqb-true (depth_at left) height parts.1 in
      let low : zero ≡ above left = omega arith in
      record {
        deep = omega arith;
        rows = subst (λ (h : ℕ). Levels (IsRow t) t.table h (x ∷ [])) low (passes_row t left zero way x placed.root p leaf, tt);
        parent = p.parent;
        tended = subst (λ (h : ℕ). Levels (IsTended t) t.table h (x ∷ [])) low (record { parent = tt; gaps = tt }, tt);
      }

  inner_kept : (left : ℕ) → suc left ≤ deepest → Sound left → (way : Way) (x : Span) → Placed t (suc left) x → (p : Passes t (suc left) way x) → p.kind ≢ Leaf → faults_at t (suc left) way x ≡ [] → Kept (suc left) way x
  unfolding faults_at
  inner_kept left low sound way x placed p other none =
      let kind : p.kind ≡ inner_of t.gapped = stands_inner t.gapped p.kind p.stands other in
      let named : named_kind x.word ≡ Some (inner_of t.gapped) = p.named ∙ ap (λ (k : RowKind). Some k) kind in
      let children : List Fault = faults_below (faults_at t left) (row_in x.word) 0 (spans_in t.table x) in
      let gaps : List Fault = at_row (row_in x.word) (gaps_by (longest_at t.table left) t x (named_kind x.word)) in
      let below = append_none (own_faults t (suc left) way x) (by_kind (named_kind x.word) [] (children ++ gaps)) none in
      let parts = append_none children gaps (sym (by_inner t.gapped (named_kind x.word) [] (children ++ gaps) named) ∙ below.1) in
      let row : IsRow t (suc (above left)) x = passes_row t (suc left) (suc (above left)) way x placed.root p kind in
      let kept = sound_below left sound (row_in x.word) 0 (spans_in t.table x) (children_placed t left (above left) x (omega arith) placed row) parts.0 in
      let deep : depth_at left ≤ height = kept.deep (omega (arith, some_least t (suc (above left)) x, row.count.least)) in
      let fits = height_fits in
      let higher : suc (above left) ≡ above (suc left) = omega arith in
      record {
        deep = omega arith;
        rows = subst (λ (h : ℕ). Levels (IsRow t) t.table h (x ∷ [])) higher ((row, tt), subst (Levels (IsRow t) t.table (above left)) (sym (append-nil (spans_in t.table x))) kept.rows);
        parent = p.parent;
        tended = subst (λ (h : ℕ). Levels (IsTended t) t.table h (x ∷ [])) higher (
          (
            record {
              parent = kept.parents;
              gaps = gap_law left (above left) x named (omega arith) kept.rows (map_none _ (gaps_by (longest_at t.table left) t x (named_kind x.word)) parts.1);
            },
            tt,
          ),
          subst (Levels (IsTended t) t.table (above left)) (sym (append-nil (spans_in t.table x))) kept.tended,
        );
      }

  sound_at : (left : ℕ) → left ≤ deepest → Sound left
  unfolding faults_at
  sound_at zero low way x placed none = let p = none_passes t zero way x none in absurd (too_deep p.kind p.depth)
  sound_at (suc left) low way x placed none =
      let p = none_passes t (suc left) way x (append_none (own_faults t (suc left) way x) _ none).0 in
      elim (leaf_or_not p.kind) [
        | inl leaf ↦ leaf_kept (suc left) way x placed p leaf
        | inr other ↦ inner_kept left low (sound_at left (omega arith)) way x placed p other none
      ]

  pub sound : faults_in t ≡ [] → IsLawful t
  unfolding faults_in
  sound none = elim (cases_Bool (t.root == 0)) [
    | inl empty ↦ inl (eqb-true t.root 0 empty)
    | inr some ↦
        let kept = sound_at deepest (omega arith) root_way (root_span t.table t.root) (root_placed t) (rw some at none) in
        let fits = height_fits in let deep = kept.deep in
        inr (above deepest, record { low = omega arith; rows = kept.rows }, kept.parent, kept.tended)
  ]

-- The path to an index is the same in a tree that shares all spans.
use Rattle.mt_splice.proofs.Prelude.{◌≡◌, ℕ, zero, suc, ◌<◌, List, ◌∷◌, sym, ap, ◌∙◌, subst, arith, append-nil, Span, row_in, Table, inner_of, spans_in, Levels, SameSpans, Tree, Shared, levels_front, levels_back, levels_here, inner_no_leaf, PathStep, slot_for, span_at, step_in, below, path_of, Leads, path_of_leaf, path_of_inner, child_at, child_leads, row_here, []}

module _ (t : Tree) (t' : Table) where
  step_shared : (x : Span) (index : ℕ) → SameSpans t.table t' x → step_in t' x index ≡ step_in t.table x index
  step_shared x index same = ap (λ (xs : List Span). record { row = row_in x.word; slot = slot_for xs index; min = x.first; max = x.last }) same

  below_shared : (x : Span) (index : ℕ) → SameSpans t.table t' x → below t' x index ≡ below t.table x index
  below_shared x index same = ap (λ (xs : List Span). span_at xs (slot_for xs index)) same

  child_shared : (h : ℕ) (x : Span) (index : ℕ) → Leads t (suc h) x index → Levels (Shared t.table t') t.table (suc h) (x ∷ []) → Levels (Shared t.table t') t.table h (below t.table x index ∷ [])
  child_shared h x index leads same =
      let y = below t.table x index in
      let at = child_at t (suc h) x index leads in
      let all : Levels (Shared t.table t') t.table h (spans_in t.table x) = subst (Levels (Shared t.table t') t.table h) (append-nil (spans_in t.table x)) same.1 in
      let parts = subst (Levels (Shared t.table t') t.table h) at.parts all in
      levels_front (Shared t.table t') t.table h (y ∷ []) at.back (levels_back (Shared t.table t') t.table h at.front (y ∷ at.back) parts)

  pub path_shared : (depth h : ℕ) (x : Span) (index : ℕ) → h < depth → Leads t h x index → Levels (Shared t.table t') t.table h (x ∷ []) → path_of t' depth x index ≡ path_of t.table depth x index
  path_shared zero h x index deep leads same = absurd (omega arith)
  path_shared (suc depth) zero x index deep leads same =
      let leaf = (row_here t zero x index leads).name.named in
      path_of_leaf t' depth x index leaf ∙ (ap (λ (s : PathStep). s ∷ []) (step_shared x index same.0) ∙ sym (path_of_leaf t.table depth x index leaf))
  path_shared (suc depth) (suc h) x index deep leads same =
      let named = (row_here t (suc h) x index leads).name.named in
      let here = (levels_here (Shared t.table t') t.table (suc h) (x ∷ []) same).0 in
      let rest = path_shared depth h (below t.table x index) index (omega arith) (child_leads t h x index leads) (child_shared h x index leads same) in
      path_of_inner t' depth x index (inner_of t.gapped) named (inner_no_leaf t.gapped)
      ∙ ((λ i. step_shared x index here i ∷ path_of t' depth (below_shared x index here i) index)
      ∙ (ap (λ (l : List PathStep). step_in t.table x index ∷ l) rest ∙ sym (path_of_inner t.table depth x index (inner_of t.gapped) named (inner_no_leaf t.gapped))))

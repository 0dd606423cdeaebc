-- A hole that ends a leaf ends at the greatest index.
use Rattle.mt_engine.proofs.Prelude.{◌≡◌, ◌≢◌, ℕ, zero, suc, ◌+◌, ◌<◌, ◌≤◌, List, [], ◌∷◌, length, sym, ap, ◌∙◌, inl, inr, arith, cases_lt, slice_get_within, Kind, greatest, Span, Fills, EndsFull, fills_le, spans_in, Tree, IsRow, IsTree, Stands, top_of, IsTreeOf, tree_as, Rooted, Handle, PathStep, IsHandleOf, slot_for, span_at, below, at_get, at_within, row_of, place, lawful}
use Rattle.mt_path.proofs.TreePaths.{holds}
use Rattle.mt_engine.proofs.Slots.{end_is, slot_holds}

-- the last of spans that end with an entry is one
full_at_end : (lo hi : ℕ) (xs : List Span) (slot : ℕ) → Fills lo hi xs → EndsFull xs → slot < length xs → (span_at xs slot).last + 1 ≡ hi → (span_at xs slot).word ≢ 0
full_at_end lo hi [] slot fills full below ends = absurd (omega arith)
full_at_end lo hi (x ∷ []) zero fills full below ends = full
full_at_end lo hi (x ∷ []) (suc slot) fills full below ends = absurd (omega arith)
full_at_end lo hi (x ∷ y ∷ xs) zero fills full below ends =
    let begins = fills.2.0 in let order = fills.2.1 in let less = fills_le (y.last + 1) hi xs fills.2.2 in
    absurd (omega arith)
full_at_end lo hi (x ∷ y ∷ xs) (suc slot) fills full below ends = full_at_end (x.last + 1) hi (y ∷ xs) slot fills.2 full (omega arith) ends

module _ (t : Tree) (h : ℕ) (stands : Stands t h) (index : ℕ) (within : index ≤ top_of t) where
  abbrev leaf : Span
  leaf = row_of t h index

  abbrev x : Span
  x = below t.table leaf index

  law : IsRow t 0 leaf
  law = lawful t h stands index h 0 within (omega arith)

  low : leaf.last ≤ top_of t
  low = let ends = (at_within _ _ _ _ _ (place t h stands index h within (omega arith))).1 in omega arith

  used : slot_for (spans_in t.table leaf) index < length (spans_in t.table leaf)
  used = slice_get_within (spans_in t.table leaf) (slot_for (spans_in t.table leaf) index) x (at_get leaf.first (leaf.last + 1) (spans_in t.table leaf) index x (holds t h stands index h within (omega arith)))

  ends_by : x.word ≡ 0 → x.last ≡ leaf.last → x.last ≡ top_of t
  ends_by hole last = elim (cases_lt leaf.last (top_of t)) [
    | inl before ↦ absurd (full_at_end leaf.first (leaf.last + 1) (spans_in t.table leaf) (slot_for (spans_in t.table leaf) index) law.pivots.fills (law.holes.ends before) used (ap (λ (n : ℕ). n + 1) last) hole)
    | inr at ↦ (let most = low in omega arith)
  ]

pub hole_ends : (t : Rooted) (kind : Kind) (handle : Handle) → IsTreeOf t kind → IsHandleOf t handle → handle.span.word ≡ 0 → handle.span.last ≡ handle.leaf.max → handle.span.last ≡ greatest t.table.width
hole_ends t kind handle tree is hole last = by tree.words
  where
    by : IsTree (tree_as kind t) → handle.span.last ≡ greatest t.table.width
    by (inl empty) = absurd (is.some empty)
    by (inr (h, stands)) =
        let w = tree_as kind t in
        let span : handle.span ≡ below t.table (row_of w h is.index) is.index = ap (λ (y : Handle). y.span) is.is ∙ slot_holds w h stands is.index is.within in
        let max : handle.leaf.max ≡ (row_of w h is.index).last = ap (λ (y : Handle). y.leaf.max) is.is ∙ ap (λ (p : PathStep). p.max) (end_is w h stands is.index is.within) in
        ap (λ (y : Span). y.last) span ∙ ends_by w h stands is.index is.within (ap (λ (y : Span). y.word) (sym span) ∙ hole) (ap (λ (y : Span). y.last) (sym span) ∙ (last ∙ max))

-- What is told of a row that the walk enters is what its table tells.
use Rattle.mt_check.proofs.Prelude.{◌≡◌, ℕ, zero, suc, ◌≤◌, List, [], ◌∷◌, ◌++◌, Option, Some, None, Bool, true, refl, sym, ap, ◌∙◌, arith, unwrap_or, slice_get, deepest, RowKind, Leaf, Inner, Gapped, Span, row_in, named_kind, spans_in, levels_by, of_first, height_of, Tree, Law, Fault, Named, Walk, Visit, Row, names_row, depth_at, has_depth, row_items, broken_words, unless, broken_in, broken_by, at_row, own_faults, way_of, height_from, LeadsToDepth, depth_from, IsEntered}
use Rattle.mt_check.specs.declared.faults.Law.TheVariants as law

-- ---- the depth

leaf_deep : (t : Tree) (left : ℕ) (x : Span) (known : Option ℕ) → left ≤ deepest → LeadsToDepth (height_from t) (depth_from t left x) known → named_kind x.word ≡ Some Leaf → has_depth (unwrap_or known (depth_at left)) left Leaf ≡ has_depth (height_from t) left Leaf
leaf_deep t zero x known low leads leaf = refl
leaf_deep t (suc left) x (Some depth) low leads leaf = ap (λ (h : ℕ). has_depth h (suc left) Leaf) leads
leaf_deep t (suc left) x None low leads leaf =
    let one : height_of t.table (suc left) x ≡ 1 = ap (λ (k : Option RowKind). levels_by k (of_first (height_of t.table left) (spans_in t.table x))) leaf in
    let same : depth_at (suc left) ≡ height_from t = omega (arith, leads, one) in
    ap (λ (h : ℕ). has_depth h (suc left) Leaf) same

pub same_depth : (t : Tree) (left : ℕ) (x : Span) (kind : RowKind) (known : Option ℕ) → left ≤ deepest → LeadsToDepth (height_from t) (depth_from t left x) known → named_kind x.word ≡ Some kind
    → has_depth (unwrap_or known (depth_at left)) left kind ≡ has_depth (height_from t) left kind
same_depth t left x Leaf known low leads named = leaf_deep t left x known low leads named
same_depth t left x Inner known low leads named = refl
same_depth t left x Gapped known low leads named = refl

-- ---- the faults

first_told : (row : ℕ) (laws : List Law) (law : Law) → slice_get laws 0 ≡ Some law → slice_get (at_row row laws) 0 ≡ Some (record { row = row; law = law })
first_told row [] law first = absurd (cc)
first_told row (l ∷ laws) law first = let same : l ≡ law = cc in ap (λ (l : Law). Some (record { row = row; law = l })) same

module _ (t : Tree) (walk : Walk) (visit : Visit) (named : Named) (low : visit.left ≤ deepest) (leads : LeadsToDepth (height_from t) (depth_from t visit.left visit.span) walk.leaf_depth) (numbered : named.row ≡ row_in visit.span.word)
    (kind : Some named.kind ≡ named_kind visit.span.word) (names : names_row t.gapped t.rows visit.span.word ≡ true) (deep : has_depth (unwrap_or walk.leaf_depth (depth_at visit.left)) visit.left named.kind ≡ true) where
  own_here : own_faults t visit.left (way_of visit) visit.span ≡ at_row (row_in visit.span.word) (broken_in t visit.left visit.parent visit.span named.kind)
  own_here =
      let depth : has_depth (height_from t) visit.left named.kind ≡ true = sym (same_depth t visit.left visit.span named.kind walk.leaf_depth low leads (sym kind)) ∙ deep in
      (λ i. at_row visit.from (unless (names i) law.Name) ++ at_row (row_in visit.span.word) (broken_by t visit.left visit.parent visit.span (sym kind i)))
      ∙ ap (λ (b : Bool). at_row (row_in visit.span.word) (unless b law.Depth ++ broken_in t visit.left visit.parent visit.span named.kind)) depth

  broken_here : broken_words t.table named.kind named.row visit.left visit.parent visit.span ≡ broken_in t visit.left visit.parent visit.span named.kind
  broken_here = ap (λ (row : ℕ). broken_words t.table named.kind row visit.left visit.parent visit.span) numbered

  pub entered : (row : Row) → row.number ≡ named.row → row.kind ≡ named.kind → row.items.items ≡ row_items t.table named.kind named.row visit.span.last
      → broken_words t.table named.kind named.row visit.left visit.parent visit.span ≡ [] → IsEntered t visit row
  entered row same like items none = record {
    named = sym kind ∙ ap (λ (k : RowKind). Some k) (sym like);
    number = same ∙ numbered;
    items = items ∙ (λ i. row_items t.table (sym like i) (numbered i) visit.span.last);
    kept = own_here ∙ ap (at_row (row_in visit.span.word)) (sym broken_here ∙ none);
  }

  pub first_broken : (law : Law) → slice_get (broken_words t.table named.kind named.row visit.left visit.parent visit.span) 0 ≡ Some law → slice_get (own_faults t visit.left (way_of visit) visit.span) 0 ≡ Some (record { row = named.row; law = law })
  first_broken law first =
      ap (λ (fs : List Fault). slice_get fs 0) own_here
      ∙ (first_told (row_in visit.span.word) (broken_in t visit.left visit.parent visit.span named.kind) law (ap (λ (ls : List Law). slice_get ls 0) (sym broken_here) ∙ first)
      ∙ ap (λ (r : ℕ). Some (record { row = r; law = law })) (sym numbered))

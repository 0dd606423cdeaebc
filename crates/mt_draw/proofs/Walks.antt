-- What the walk gives at a depth above 0.
use Rattle.mt_draw.proofs.Prelude.{◌≡◌, ◌≢◌, ℕ, zero, suc, ◌+◌, ◌-◌, ◌<◌, List, [], ◌∷◌, Option, Some, refl, ap, ◌∙◌, arith, flat_map, RowKind, Leaf, Inner, Gapped, named_kind, Span, Table, spans_in, Node, node_at, with_below, nodes_of}

pub nodes_of_deeper : (t : Table) (levels depth : ℕ) (x : Span) → 0 < levels → nodes_of t levels depth x ≡ with_below depth (named_kind x.word) x (flat_map (nodes_of t (levels - 1) (depth + 1)) (spans_in t x))
nodes_of_deeper t zero depth x deep = absurd (omega arith)
nodes_of_deeper t (suc levels) depth x deep =
    let same : levels ≡ suc levels - 1 = omega arith in
    ap (λ (n : ℕ). with_below depth (named_kind x.word) x (flat_map (nodes_of t n (depth + 1)) (spans_in t x))) same

pub with_below_inner : (depth : ℕ) (kind : RowKind) (x : Span) (below : List Node) → kind ≢ Leaf → with_below depth (Some kind) x below ≡ node_at depth kind x ∷ below
with_below_inner depth Leaf x below other = absurd (other refl)
with_below_inner depth Inner x below other = refl
with_below_inner depth Gapped x below other = refl

pub nodes_of_inner : (t : Table) (levels depth : ℕ) (x : Span) (kind : RowKind) → 0 < levels → named_kind x.word ≡ Some kind → kind ≢ Leaf
    → nodes_of t levels depth x ≡ node_at depth kind x ∷ flat_map (nodes_of t (levels - 1) (depth + 1)) (spans_in t x)
nodes_of_inner t levels depth x kind deep named other =
    nodes_of_deeper t levels depth x deep
    ∙ (ap (λ (k : Option RowKind). with_below depth k x (flat_map (nodes_of t (levels - 1) (depth + 1)) (spans_in t x))) named
    ∙ with_below_inner depth kind x (flat_map (nodes_of t (levels - 1) (depth + 1)) (spans_in t x)) other)

pub nodes_of_leaf : (t : Table) (levels depth : ℕ) (x : Span) → 0 < levels → named_kind x.word ≡ Some Leaf → nodes_of t levels depth x ≡ node_at depth Leaf x ∷ []
nodes_of_leaf t levels depth x deep named =
    nodes_of_deeper t levels depth x deep
    ∙ ap (λ (k : Option RowKind). with_below depth k x (flat_map (nodes_of t (levels - 1) (depth + 1)) (spans_in t x))) named

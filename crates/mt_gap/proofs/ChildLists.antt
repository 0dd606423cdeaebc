-- Children of rows: the spans that they are, and the gap words of a row that keeps the law of gaps.
use Rattle.mt_gap.proofs.Prelude.{◌≡◌, ℕ, suc, ◌+◌, Bool, true, List, [], ◌∷◌, ◌++◌, Option, Some, None, refl, sym, ap, ◌∙◌, subst, AllByRecursion, flat_map, Hole, all_join, Item, RowKind, Gapped, Span, row_in, named_kind, slots_of, spans_from, Table, inner_of, spans_by, spans_in, expand, Tree, IsRow, IsTended, GapsFrom, GapLawBy, longest_below, Child, leaf_hole, child_hole, children_from, children_by, children_in, children_below, AreGapsAt, gaps_read}

abbrev pub spans : List Child → List Span
spans [] = []
spans (x ∷ xs) = x.span ∷ spans xs

abbrev pub no_child : Child
no_child = record { span = record { first = 0; last = 0; word = 0 }; gap = 0 }

-- ---- their spans

pub spans-append : (xs ys : List Child) → spans (xs ++ ys) ≡ spans xs ++ spans ys
spans-append [] ys = refl
spans-append (x ∷ xs) ys = ap (λ (l : List Span). x.span ∷ l) (spans-append xs ys)

pub spans_are : (first : ℕ) (items : List Item) → spans (children_from first items) ≡ spans_from first items
spans_are first [] = refl
spans_are first (x ∷ items) = ap (λ (l : List Span). record { first = first; last = x.last; word = x.word } ∷ l) (spans_are (x.last + 1) items)

pub spans_of_row : (t : Table) (x : Span) → spans (children_in t x) ≡ spans_in t x
spans_of_row t x = by_kind (named_kind x.word)
  where
    by_kind : (k : Option RowKind) → spans (children_by t k x) ≡ spans_by t k x
    by_kind None = refl
    by_kind (Some kind) = spans_are x.first _

pub spans_below : (t : Table) (xs : List Child) → spans (children_below t xs) ≡ expand t (spans xs)
spans_below t [] = refl
spans_below t (x ∷ xs) = spans-append (children_in t x.span) (children_below t xs) ∙ (λ i. spans_of_row t x.span i ++ spans_below t xs i)

pub holes_of_children : (xs : List Child) → flat_map child_hole xs ≡ flat_map leaf_hole (spans xs)
holes_of_children [] = refl
holes_of_children (x ∷ xs) = ap (λ (l : List Hole). leaf_hole x.span ++ l) (holes_of_children xs)

-- ---- their gap words

-- the child's gap word is the longest hole below it
abbrev pub GapIs : Table → ℕ → Child → Type 0
GapIs t h x = x.gap ≡ longest_below t h (x.span ∷ [])

law_tells : (t : Table) (h row slot first : ℕ) (items : List Item) → AreGapsAt t row slot items → GapsFrom t h row slot (spans_from first items) → AllByRecursion (GapIs t h) (children_from first items)
law_tells t h row slot first [] at law = tt
law_tells t h row slot first (x ∷ items) at law = (at.0 ∙ law.0, law_tells t h row (slot + 1) (x.last + 1) items at.1 law.1)

pub row_gaps : (t : Table) (h : ℕ) (x : Span) → named_kind x.word ≡ Some Gapped → GapLawBy Gapped t h x → AllByRecursion (GapIs t h) (children_in t x)
row_gaps t h x named law =
    subst (λ (k : Option RowKind). AllByRecursion (GapIs t h) (children_by t k x)) (sym named)
    (law_tells t h (row_in x.word) 0 x.first _ (gaps_read t.width t.words (row_in x.word) x.last (slots_of t.width Gapped) 0)
    (subst (λ (k : Option RowKind). GapsFrom t h (row_in x.word) 0 (spans_by t k x)) named law))

-- in the rows of a tree with gaps the gap words are those of the children one level lower
pub gaps_below : (t : Tree) (h : ℕ) (xs : List Child) → t.gapped ≡ true → AllByRecursion (IsRow t (suc h)) (spans xs) → AllByRecursion (IsTended t (suc h)) (spans xs) → AllByRecursion (GapIs t.table h) (children_below t.table xs)
gaps_below t h [] gapped rows each = tt
gaps_below t h (x ∷ xs) gapped rows each =
    all_join (GapIs t.table h) (children_in t.table x.span) (children_below t.table xs)
    (row_gaps t.table h x.span (rows.0.name.named ∙ ap (λ (b : Bool). Some (inner_of b)) gapped) (subst (λ (b : Bool). GapLawBy (inner_of b) t.table h x.span) gapped each.0.gaps))
    (gaps_below t h xs gapped rows.1 each.1)

-- The items of a row taken in beside others, as spans.
use Rattle.mt_splice.proofs.Prelude.{[], ◌≡◌, ℕ, Bool, true, false, zero, suc, ◌+◌, ◌-◌, List, ◌∷◌, ◌++◌, length, sym, ap, ◌∙◌, refl, arith, Item, spans_from, Fills, fills_after, spans-append, holes_joined, ends_with_hole, pushed_onto, kind_on, MayBeIn, is_hole_at, beside_items, Span}

-- the spans of rows of a height that stand beside each other
abbrev pub beside : ℕ → List Span → List Span → List Span
beside zero xs ys = holes_joined (xs ++ ys)
beside (suc h) xs ys = xs ++ ys

pub ends_at_last : (first : ℕ) (items : List Item) → ends_with_hole (spans_from first items) ≡ is_hole_at items (length items - 1)
ends_at_last first [] = refl
ends_at_last first (x ∷ []) = refl
ends_at_last first (x ∷ y ∷ items) =
    let last : suc (length (y ∷ items) - 1) ≡ length (x ∷ y ∷ items) - 1 = omega arith in
    ends_at_last (x.last + 1) (y ∷ items) ∙ ap (is_hole_at (x ∷ y ∷ items)) last

-- items behind those that end at `middle`
pub spans_behind : (lo middle : ℕ) (items row : List Item) → Fills lo middle (spans_from lo items) → spans_from lo (items ++ row) ≡ spans_from lo items ++ spans_from middle row
spans_behind lo middle items row here = spans-append lo items row ∙ ap (λ (k : ℕ). spans_from lo items ++ spans_from k row) (sym (fills_after lo middle items here))

pub beside_spans : (lo middle : ℕ) (items row : List Item) → Fills lo middle (spans_from lo items) → (gapped : Bool) (height : ℕ) → MayBeIn height (spans_from lo items)
    → spans_from lo (beside_items (kind_on gapped height) items row) ≡ beside height (spans_from lo items) (spans_from middle row)
beside_spans lo middle items row here gapped zero fit = pushed_onto lo items row fit.0 ∙ ap holes_joined (spans_behind lo middle items row here)
beside_spans lo middle items row here false (suc height) fit = spans_behind lo middle items row here
beside_spans lo middle items row here true (suc height) fit = spans_behind lo middle items row here

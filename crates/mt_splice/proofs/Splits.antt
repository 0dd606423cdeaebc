-- Two ways to part spans that stand end to end.
use Rattle.mt_splice.proofs.Prelude.{◌≡◌, ℕ, ◌+◌, ◌≤◌, List, [], ◌∷◌, ◌++◌, refl, sym, ap, ◌∙◌, subst, arith, append-nil, Span, Fills, fills_le}

-- of two ways to part a list, the one that goes further has a middle
pub split_more : (lo end end' : ℕ) (xs ys xs' ys' : List Span) → xs ++ ys ≡ xs' ++ ys' → Fills lo end xs → Fills lo end' xs' → end ≤ end'
    → (middle : List Span) × (xs' ≡ xs ++ middle) × (ys ≡ middle ++ ys') × Fills end end' middle
split_more lo end end' [] ys xs' ys' same fills fills' le = (xs', refl, same, subst (λ (k : ℕ). Fills k end' xs') fills fills')
split_more lo end end' (x ∷ xs) ys [] ys' same fills fills' le =
    let behind = fills_le (x.last + 1) end xs fills.2 in let some = fills.1 in let none : lo ≡ end' = fills' in absurd (omega arith)
split_more lo end end' (x ∷ xs) ys (x' ∷ xs') ys' same fills fills' le =
    let first : x ≡ x' = cc in
    let rest : xs ++ ys ≡ xs' ++ ys' = cc in
    let behind = split_more (x.last + 1) end end' xs ys xs' ys' rest fills.2 (subst (λ (y : Span). Fills (y.last + 1) end' xs') (sym first) fills'.2) le in
    (behind.0, (λ i. sym first i ∷ behind.1 i), behind.2, behind.3)

pub fills_none : (lo : ℕ) (xs : List Span) → Fills lo lo xs → xs ≡ []
fills_none lo [] fills = refl
fills_none lo (x ∷ xs) fills = let behind = fills_le (x.last + 1) lo xs fills.2 in let some = fills.1 in absurd (omega arith)

pub split_same : (lo end : ℕ) (xs ys xs' ys' : List Span) → xs ++ ys ≡ xs' ++ ys' → Fills lo end xs → Fills lo end xs' → (xs ≡ xs') × (ys ≡ ys')
split_same lo end xs ys xs' ys' same fills fills' =
    let more = split_more lo end end xs ys xs' ys' same fills fills' (omega arith) in
    let none = fills_none end more.0 more.3 in
    (sym (more.1 ∙ (ap (λ (middle : List Span). xs ++ middle) none ∙ append-nil xs)), more.2 ∙ ap (λ (middle : List Span). middle ++ ys') none)

-- How many items a store on one leaf or on two gives, fewer where it ends with a hole.
use Rattle.mt_leaf.proofs.Prelude.{◌≡◌, ℕ, ◌+◌, ◌*◌, ◌<◌, ◌≤◌, ◌==◌, List, [], ◌∷◌, ◌++◌, true, length, nat_lt, refl, sym, ap, ◌∙◌, subst, inl, inr, arith, length-append, append-nil, cases_Bool, ltb-true, eqb-true, Span, Fills, EndsFull, spans_below, spans_above, span_above, span_stored, stored, holes_joined, edited, starting, ends_with_hole}
use Rattle.mt_leaf.proofs.Joined.{length_joined}
use Rattle.mt_leaf.proofs.Holes.{ends_joined, ends-append, full_no_hole}
use Rattle.mt_leaf.proofs.Stored.{none_below, none_above, all_above, length_above, length_edited, below-append, above-append, above-starting, fills_starting}

-- ---- fewer where they end with a hole

-- what is left above ends as the spans do, if anything is left
none_left : (lo hi last : ℕ) (z : Span) (xs : List Span) → Fills lo hi xs → EndsFull xs → ends_with_hole (z ∷ spans_above xs last) ≡ true → spans_above xs last ≡ []
none_left lo hi last z [] fills full hole = refl
none_left lo hi last z (x ∷ []) fills full hole = elim (cases_Bool (nat_lt last x.last)) [
  | inl t ↦ let here : (x.word == 0) ≡ true = rw t at hole in absurd (full (eqb-true x.word 0 here))
  | inr n ↦ rw n refl
]
none_left lo hi last z (x ∷ y ∷ ys) fills full hole = elim (cases_Bool (nat_lt last x.last)) [
  | inl t ↦
      let high : last < x.last = ltb-true last x.last t in
      let behind : spans_above (y ∷ ys) last ≡ y ∷ ys = all_above (x.last + 1) hi last (y ∷ ys) fills.2 (omega arith) in
      let both : spans_above (x ∷ y ∷ ys) last ≡ span_above last x ∷ spans_above (y ∷ ys) last = rw t refl in
      let ends = subst (λ (l : List Span). ends_with_hole (z ∷ l) ≡ true) (both ∙ ap (λ (l : List Span). span_above last x ∷ l) behind) hole in
      absurd (full_no_hole (y ∷ ys) full ends)
  | inr n ↦
      let rest : spans_above (x ∷ y ∷ ys) last ≡ spans_above (y ∷ ys) last = rw n refl in
      rest ∙ none_left (x.last + 1) hi last z (y ∷ ys) fills.2 full (subst (λ (l : List Span). ends_with_hole (z ∷ l) ≡ true) rest hole)
]

-- ---- how many

length_below : (xs : List Span) (first : ℕ) → length (spans_below xs first) ≤ length xs
length_below [] first = omega arith
length_below (x ∷ xs) first = let k = length_below xs first in elim (cases_Bool (nat_lt x.first first)) [ inl t ↦ rw t (omega (arith, k)) | inr n ↦ rw n (omega (arith, k)) ]

few_joined : (x : Span) (below above : List Span) → length (holes_joined (below ++ (x ∷ above))) ≤ length below + 1 + length above
few_joined x below above = omega (arith, length_joined (below ++ (x ∷ above)), length-append below (x ∷ above))

few_to_a_hole : (lo hi last : ℕ) (x : Span) (below xs : List Span) → Fills lo hi xs → EndsFull xs → ends_with_hole (holes_joined (below ++ (x ∷ spans_above xs last))) ≡ true
    → length (holes_joined (below ++ (x ∷ spans_above xs last))) ≤ length below + 1
few_to_a_hole lo hi last x below xs fills full hole =
    let ends = sym (ends-append below x (spans_above xs last)) ∙ (sym (ends_joined (below ++ (x ∷ spans_above xs last))) ∙ hole) in
    let none = ap length (none_left lo hi last x xs fills full ends) in
    omega (arith, none, few_joined x below (spans_above xs last))

pub one_short : (lo hi first last entry n : ℕ) (xs : List Span) → Fills lo hi xs → lo ≤ first → first ≤ last → last < hi → length xs ≤ n → length (edited xs first last entry) ≤ n + 2
one_short lo hi first last entry n xs fills begins order ends few = omega (arith, length_edited lo hi first last entry xs fills order)

pub one_to_a_hole : (lo hi first last entry n : ℕ) (xs : List Span) → Fills lo hi xs → lo ≤ first → first ≤ last → last < hi → length xs ≤ n → ends_with_hole (edited xs first last entry) ≡ true → EndsFull xs
    → length (edited xs first last entry) ≤ n + 1
one_to_a_hole lo hi first last entry n xs fills begins order ends few hole full =
    omega (arith, few_to_a_hole lo hi last (span_stored first last entry) (spans_below xs first) xs fills full hole, length_below xs first)

pub stored_two : (lo middle behind hi first last entry : ℕ) (left right : List Span) → Fills lo middle left → Fills behind hi right → first < middle → middle ≤ behind → behind ≤ last → last < hi
    → stored (left ++ starting middle right) first last entry ≡ spans_below left first ++ (span_stored first last entry ∷ spans_above right last)
stored_two lo middle behind hi first last entry left right f g begins order ends inside =
    let below = below-append first left (starting middle right)
    ∙ (ap (λ (l : List Span). spans_below left first ++ l) (none_below middle hi first (starting middle right) (fills_starting middle behind hi right g order (omega arith)) (omega arith))
    ∙ append-nil (spans_below left first)) in
    let none = none_above lo middle last left f (omega arith) in
    let above = above-append last left (starting middle right) ∙ (λ i. none i ++ above-starting middle behind hi last right g order ends i) in
    λ i. below i ++ (span_stored first last entry ∷ above i)

pub two_short : (lo middle behind hi first last entry n : ℕ) (left right : List Span) → Fills lo middle left → Fills behind hi right → first < middle → middle ≤ behind → behind ≤ last → last < hi → length left ≤ n → length right ≤ n
    → length (edited (left ++ starting middle right) first last entry) ≤ 2 * n + 1
two_short lo middle behind hi first last entry n left right f g begins order ends inside few many =
    let same = ap (λ (l : List Span). length (holes_joined l)) (stored_two lo middle behind hi first last entry left right f g begins order ends inside) in
    omega (arith, same, few_joined (span_stored first last entry) (spans_below left first) (spans_above right last), length_below left first, length_above right last)

pub two_to_a_hole : (lo middle behind hi first last entry n : ℕ) (left right : List Span) → Fills lo middle left → Fills behind hi right → first < middle → middle ≤ behind → behind ≤ last → last < hi → length left ≤ n → length right ≤ n
    → ends_with_hole (edited (left ++ starting middle right) first last entry) ≡ true → EndsFull right → length (edited (left ++ starting middle right) first last entry) ≤ n + 1
two_to_a_hole lo middle behind hi first last entry n left right f g begins order ends inside few many hole full =
    let parts = stored_two lo middle behind hi first last entry left right f g begins order ends inside in
    let same = ap (λ (l : List Span). length (holes_joined l)) parts in
    let to_hole = subst (λ (l : List Span). ends_with_hole (holes_joined l) ≡ true) parts hole in
    omega (arith, same, few_to_a_hole behind hi last (span_stored first last entry) (spans_below left first) right g full to_hole, length_below left first)

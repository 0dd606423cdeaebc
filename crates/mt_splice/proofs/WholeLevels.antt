-- The windows of whole levels, noted from the lowest up.
use Rattle.mt_splice.proofs.Prelude.{◌≡◌, ℕ, suc, ◌+◌, ◌-◌, ◌<◌, ◌≤◌, List, [], ◌∷◌, ◌++◌, length, refl, sym, ap, ◌∙◌, arith, append_assoc, append-nil, length-append, PathStep, step_at, Window, windows_over}

-- those above `upper` are noted
pub record AreNoted (begun windows : List Window) (left right : List PathStep) (depth upper : ℕ) : Type 0 where
  pub all : windows ++ windows_over left right upper ≡ begun ++ windows_over left right depth
  pub low : upper ≤ depth
  pub long : length windows + upper ≡ length begun + depth

pub none_noted : {begun : List Window} {left right : List PathStep} {depth : ℕ} → AreNoted begun begun left right depth depth
none_noted = record { all = refl; low = omega arith; long = refl }

pub one_noted : {begun windows windows' : List Window} {left right : List PathStep} {depth upper : ℕ} {w : Window} → AreNoted begun windows left right depth upper → 0 < upper → windows' ≡ windows ++ w ∷ [] → w.first ≡ step_at left (upper - 1) → w.last ≡ step_at right (upper - 1)
    → AreNoted begun windows' left right depth (upper - 1)
one_noted {begun} {windows} {windows'} {left} {right} {depth} {upper} {w} noted more is first last =
    let next : upper ≡ suc (upper - 1) = omega arith in
    record {
      all = ap (λ (l : List Window). l ++ windows_over left right (upper - 1)) is
          ∙ (append_assoc windows (w ∷ []) (windows_over left right (upper - 1))
          ∙ ((λ i. windows ++ (record { first = first i; last = last i } ∷ windows_over left right (upper - 1))) ∙ (ap (λ (n : ℕ). windows ++ windows_over left right n) (sym next) ∙ noted.all)));
      low = let low = noted.low in omega arith;
      long = let long = noted.long in omega (arith, ap length is, length-append windows (w ∷ []));
    }

pub all_noted : {begun windows : List Window} {left right : List PathStep} {depth upper : ℕ} → AreNoted begun windows left right depth upper → upper ≤ 0 → windows ≡ begun ++ windows_over left right depth
all_noted {begun} {windows} {left} {right} {depth} {upper} noted none =
    let zero_left : upper ≡ 0 = omega arith in sym (append-nil windows) ∙ (ap (λ (n : ℕ). windows ++ windows_over left right n) (sym zero_left) ∙ noted.all)

-- Words of which only the first are written down: those behind them are 0.
use Rattle.mt_rows.proofs.Prelude.{◌≡◌, ◌≢◌, ℕ, zero, suc, ◌+◌, ◌-◌, ◌<◌, ◌≤◌, List, [], ◌∷◌, ◌++◌, length, length-append, refl, sym, ap, ◌∙◌, subst, ◌⊎◌, inl, inr, ⊎_elim, arith, get_or-set_other, get_or-set_same, replicate, slice_index, slice_set, get_or-eq_default, cases_eq, get_or_append_left, get_or-append-add, with_zeros, ArePut}

-- ---- zeros behind a list

pub zeros_behind : (n : ℕ) (w : List ℕ) (at : ℕ) → slice_index (with_zeros n w) at ≡ slice_index w at
zeros_behind zero w at = refl
zeros_behind (suc n) [] zero = refl
zeros_behind (suc n) [] (suc at) = zeros_behind n [] at
zeros_behind (suc n) (x ∷ w) zero = refl
zeros_behind (suc n) (x ∷ w) (suc at) = zeros_behind n w at

pub all_zeros : (n : ℕ) → with_zeros n [] ≡ replicate n 0
all_zeros zero = refl
all_zeros (suc n) = ap (λ (w : List ℕ). 0 ∷ w) (all_zeros n)

pub zeros_long : (n : ℕ) (w : List ℕ) → length w ≤ n → length (with_zeros n w) ≡ n
zeros_long zero [] fit = refl
zeros_long zero (x ∷ w) fit = absurd (omega arith)
zeros_long (suc n) [] fit = ap suc (zeros_long n [] (omega arith))
zeros_long (suc n) (x ∷ w) fit = ap suc (zeros_long n w (omega arith))

-- where there are as many already none is added
pub zeros_enough : (n : ℕ) (w : List ℕ) → n ≤ length w → with_zeros n w ≡ w
zeros_enough zero w fit = refl
zeros_enough (suc n) [] fit = absurd (omega arith)
zeros_enough (suc n) (x ∷ w) fit = ap (λ (l : List ℕ). x ∷ l) (zeros_enough n w (omega arith))

-- one of them is written
pub zeros_push : (n : ℕ) (w : List ℕ) → length w < n → with_zeros n (w ++ (0 ∷ [])) ≡ with_zeros n w
zeros_push zero w fit = absurd (omega arith)
zeros_push (suc n) [] fit = refl
zeros_push (suc n) (x ∷ w) fit = ap (λ (l : List ℕ). x ∷ l) (zeros_push n w (omega arith))

-- a word is written, with as many zeros before it as it takes
pub zeros_set : (n : ℕ) (w : List ℕ) (at x : ℕ) → at < n → with_zeros n (slice_set (with_zeros (suc at) w) at x) ≡ slice_set (with_zeros n w) at x
zeros_set zero w at x within = absurd (omega arith)
zeros_set (suc n) [] zero x within = refl
zeros_set (suc n) [] (suc at) x within = ap (λ (l : List ℕ). 0 ∷ l) (zeros_set n [] at x (omega arith))
zeros_set (suc n) (y ∷ w) zero x within = refl
zeros_set (suc n) (y ∷ w) (suc at) x within = ap (λ (l : List ℕ). y ∷ l) (zeros_set n w at x (omega arith))

pub zeros_set_next : (n : ℕ) (w : List ℕ) (next at x : ℕ) → next ≡ at + 1 → at < n → with_zeros n (slice_set (with_zeros next w) at x) ≡ slice_set (with_zeros n w) at x
zeros_set_next n w next at x is within =
    let same : next ≡ suc at = omega arith in
    ap (λ (m : ℕ). with_zeros n (slice_set (with_zeros m w) at x)) same ∙ zeros_set n w at x within

-- there are so many at least
pub zeros_reach : (n : ℕ) (w : List ℕ) → n ≤ length (with_zeros n w)
zeros_reach zero w = omega arith
zeros_reach (suc n) [] = let more = zeros_reach n [] in omega arith
zeros_reach (suc n) (x ∷ w) = let more = zeros_reach n w in omega arith

-- and no more than there were or are asked for
pub zeros_fit : (n most : ℕ) (w : List ℕ) → n ≤ most → length w ≤ most → length (with_zeros n w) ≤ most
zeros_fit zero most w few fit = fit
zeros_fit (suc n) zero w few fit = absurd (omega arith)
zeros_fit (suc n) (suc most) [] few fit = let less = zeros_fit n most [] (omega arith) (omega arith) in omega arith
zeros_fit (suc n) (suc most) (x ∷ w) few fit = let less = zeros_fit n most w (omega arith) (omega arith) in omega arith

-- ---- words that are put from a place on

-- behind those that are written down, with as many zeros between as it takes
pub appended_put : (n at : ℕ) (w words : List ℕ) → length w ≤ at → at + length words ≤ n → ArePut at words (with_zeros n w) (with_zeros n (with_zeros at w ++ words))
appended_put n at w words behind fit = record {
  size = zeros_long n (with_zeros at w ++ words) (omega (arith, whole)) ∙ sym (zeros_long n w (omega arith));
  here = λ i within. zeros_behind n (with_zeros at w ++ words) (at + i) ∙ (ap (λ (m : ℕ). slice_index (with_zeros at w ++ words) (m + i)) (sym long) ∙ get_or-append-add (with_zeros at w) words i 0);
  others = λ k outside. zeros_behind n (with_zeros at w ++ words) k ∙ (other k outside ∙ sym (zeros_behind n w k));
}
  where
    long : length (with_zeros at w) ≡ at
    long = zeros_long at w behind

    whole : length (with_zeros at w ++ words) ≡ at + length words
    whole = length-append (with_zeros at w) words ∙ ap (λ (m : ℕ). m + length words) long

    other : (k : ℕ) → (k < at) ⊎ (at + length words ≤ k) → slice_index (with_zeros at w ++ words) k ≡ slice_index w k
    other k (inl below) = get_or_append_left (with_zeros at w) words 0 k (omega (arith, long)) ∙ zeros_behind at w k
    other k (inr above) = get_or-eq_default (with_zeros at w ++ words) 0 (omega (arith, whole)) ∙ sym (get_or-eq_default w 0 (omega arith))

-- over those that are written down, with zeros behind them where there are too few
pub overwritten_put : (n at end : ℕ) (w w' words : List ℕ) → length w ≤ n → end ≤ n → ArePut at words (with_zeros end w) w' → ArePut at words (with_zeros n w) (with_zeros n w')
overwritten_put n at end w w' words fit few put = record {
  size = zeros_long n w' (let less = zeros_fit end n w few fit in let same = put.size in omega arith) ∙ sym (zeros_long n w fit);
  here = λ i within. zeros_behind n w' (at + i) ∙ put.here i within;
  others = λ k outside. zeros_behind n w' k ∙ (put.others k outside ∙ (zeros_behind end w k ∙ sym (zeros_behind n w k)));
}

-- what the write of a word cites, and that of words
pub ruleset set_zeros = (zeros_set_next, zeros_reach, zeros_fit, zeros_long)

pub ruleset put_zeros = (appended_put, overwritten_put, zeros_reach, zeros_fit, zeros_long)

-- the list that is read has as many words as are counted
pub listed_long : (n : ℕ) (w old : List ℕ) → length w ≤ n → with_zeros n w ≡ old → length old ≡ n
listed_long n w old fit seen = sym (ap length seen) ∙ zeros_long n w fit

-- what was put, as it is read
pub appended_listed : (n at : ℕ) (w words v old : List ℕ) → with_zeros n w ≡ old → length w ≤ n → length w ≤ at → at + length words ≤ length old → v ≡ with_zeros at w ++ words → ArePut at words old (with_zeros n v)
appended_listed n at w words v old seen fit behind asked items =
    let long = listed_long n w old fit seen in
    subst (λ (z : List ℕ × List ℕ). ArePut at words z.0 z.1) (λ i. (seen i, with_zeros n (sym items i))) (appended_put n at w words behind (omega arith))

pub overwritten_listed : (n at : ℕ) (w w' words v old : List ℕ) → with_zeros n w ≡ old → length w ≤ n → at + length words ≤ length old → ArePut at words (with_zeros (at + length words) w) w' → v ≡ w' → ArePut at words old (with_zeros n v)
overwritten_listed n at w w' words v old seen fit asked put items =
    let long = listed_long n w old fit seen in
    subst (λ (z : List ℕ × List ℕ). ArePut at words z.0 z.1) (λ i. (seen i, with_zeros n (sym items i))) (overwritten_put n at (at + length words) w w' words fit (omega arith) put)

-- ---- zeros over the first words

pub one_more_zero : (w : List ℕ) (at : ℕ) → at < length w → ((k : ℕ) → k < at → slice_index w k ≡ 0) → (k : ℕ) → k < at + 1 → slice_index (slice_set w at 0) k ≡ 0
one_more_zero w at within zeros k low = ⊎_elim
    (λ (same : k ≡ at). ap (slice_index (slice_set w at 0)) same ∙ get_or-set_same w at 0 0 within)
    (λ (off : k ≢ at). get_or-set_other w at k 0 0 off ∙ zeros k (omega (arith, off)))
    (cases_eq k at)

pub others_stay : (w before : List ℕ) (at : ℕ) → ((k : ℕ) → at ≤ k → slice_index w k ≡ slice_index before k) → (k : ℕ) → at + 1 ≤ k → slice_index (slice_set w at 0) k ≡ slice_index before k
others_stay w before at same k high = get_or-set_other w at k 0 0 (λ is. omega arith) ∙ same k (omega arith)

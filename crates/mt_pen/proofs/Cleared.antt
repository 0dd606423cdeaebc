-- What the section words of all passes clear.
use Rattle.mt_pen.proofs.Prelude.{◌≡◌, ◌⊎◌, ℕ, zero, suc, ◌+◌, ◌*◌, ◌<◌, ◌≤◌, List, [], ◌∷◌, length, min, refl, ◌∙◌, arith, inl, inr, length-set, slice_set, slice_index, get_or-set_same, nat_tests, eqb_tells, Scan, PenPart, PassPart, least_from, lesser, least_number, raised, cleared_from, AreWordsFrom}

-- ---- lists of numbers

set_at : (most : ℕ) (xs : List ℕ) (i v k : ℕ) → v ≤ most → slice_index xs k ≤ most → slice_index (slice_set xs i v) k ≤ most
set_at most [] i v k new old = old
set_at most (x ∷ xs) zero v zero new old = new
set_at most (x ∷ xs) zero v (suc k) new old = old
set_at most (x ∷ xs) (suc i) v zero new old = old
set_at most (x ∷ xs) (suc i) v (suc k) new old = set_at most xs i v k new old

set_kept : (xs : List ℕ) (i v k : ℕ) → slice_index xs i ≤ v → slice_index xs k ≤ slice_index (slice_set xs i v) k
set_kept [] i v k up = omega arith
set_kept (x ∷ xs) zero v zero up = up
set_kept (x ∷ xs) zero v (suc k) up = omega arith
set_kept (x ∷ xs) (suc i) v zero up = omega arith
set_kept (x ∷ xs) (suc i) v (suc k) up = set_kept xs i v k up

-- past the end a number is 0
pub all_of : (xs : List ℕ) (most : ℕ) → ((k : ℕ) → k < length xs → slice_index xs k ≤ most) → (k : ℕ) → slice_index xs k ≤ most
all_of [] most each k = omega arith
all_of (x ∷ xs) most each zero = each zero (omega arith)
all_of (x ∷ xs) most each (suc k) = all_of xs most (λ j l. each (suc j) (omega (arith, l))) k

least_below : (xs : List ℕ) (k : ℕ) → k < length xs → least_number xs ≤ slice_index xs k
least_below [] k l = absurd (omega arith)
least_below (x ∷ []) zero l = omega arith
least_below (x ∷ []) (suc k) l = absurd (omega arith)
least_below (x ∷ y ∷ xs) zero l = omega arith
least_below (x ∷ y ∷ xs) (suc k) l = omega (arith, least_below (y ∷ xs) k (omega arith))

pub least_least : (xs : List ℕ) (m : ℕ) → 1 ≤ length xs → ((k : ℕ) → k < length xs → m ≤ slice_index xs k) → m ≤ least_number xs
least_least [] m some each = absurd (omega arith)
least_least (x ∷ []) m some each = each zero (omega arith)
least_least (x ∷ y ∷ xs) m some each = let h : m ≤ x = each zero (omega arith) in
    let t : m ≤ least_number (y ∷ xs) = least_least (y ∷ xs) m (omega arith) (λ k l. each (suc k) (omega (arith, l))) in omega (arith, h, t)

pub least_kept : (xs ys : List ℕ) → length ys ≡ length xs → 1 ≤ length xs → ((k : ℕ) → slice_index xs k ≤ slice_index ys k) → least_number xs ≤ least_number ys
least_kept xs ys same some each = least_least ys (least_number xs) (omega (arith, same)) (λ k l. let b : least_number xs ≤ slice_index xs k = least_below xs k (omega (arith, same, l)) in omega (arith, b, each k))

-- ---- one word

raised_most : (ended was word : ℕ) → was ≤ ended → (word ≡ 0) ⊎ ((epoch : ℕ) × (word ≡ 2 * epoch + 1) × (epoch ≤ ended)) → raised ended was word ≤ ended
raised_most ended was word low (inl closed) = grind (arith, nat_tests)
raised_most ended was word low (inr at) = let e : word ≡ 2 * at.0 + 1 = at.1 in let l : at.0 ≤ ended = at.2 in grind (arith, nat_tests)

raised_kept : (ended was word : ℕ) → was ≤ ended → was ≤ raised ended was word
raised_kept ended was word low = grind (arith, nat_tests)

lesser_low : (pass word : ℕ) (scan : Scan) → (lesser pass word scan).least ≤ scan.least
lesser_low pass word scan = grind (arith, nat_tests)

raised_low : (pass ended was word : ℕ) (scan : Scan) → min (lesser pass word scan).least ended ≤ raised ended was word
raised_low pass ended was word scan = grind (arith, nat_tests)

least_low : (pass : ℕ) (words : List ℕ) (scan : Scan) → (least_from pass words scan).least ≤ scan.least
least_low pass [] scan = omega arith
least_low pass (word ∷ words) scan = omega (arith, least_low (pass + 1) words (lesser pass word scan), lesser_low pass word scan)

-- ---- all words

pub cleared_count : (ended pass : ℕ) (words cleared : List ℕ) → length (cleared_from ended pass words cleared) ≡ length cleared
cleared_count ended pass [] cleared = refl
cleared_count ended pass (word ∷ words) cleared = cleared_count ended (pass + 1) words (slice_set cleared pass (raised ended (slice_index cleared pass) word)) ∙ length-set cleared pass (raised ended (slice_index cleared pass) word)

pub cleared_most : (p : PenPart) (q : PassPart) (pass : ℕ) (words cleared : List ℕ) → AreWordsFrom p q pass words → ((k : ℕ) → slice_index cleared k ≤ p.ended) → (k : ℕ) → slice_index (cleared_from p.ended pass words cleared) k ≤ p.ended
cleared_most p q pass [] cleared each most k = most k
cleared_most p q pass (word ∷ words) cleared each most k = cleared_most p q (pass + 1) words _ each.1 (λ j. set_at p.ended cleared pass _ j (raised_most p.ended _ word (most pass) each.0.closed_or_open) (most j)) k

pub cleared_kept : (p : PenPart) (q : PassPart) (pass : ℕ) (words cleared : List ℕ) → AreWordsFrom p q pass words → ((k : ℕ) → slice_index cleared k ≤ p.ended) → (k : ℕ) → slice_index cleared k ≤ slice_index (cleared_from p.ended pass words cleared) k
cleared_kept p q pass [] cleared each most k = omega arith
cleared_kept p q pass (word ∷ words) cleared each most k =
    let v : ℕ = raised p.ended (slice_index cleared pass) word in
    let here : slice_index cleared k ≤ slice_index (slice_set cleared pass v) k = set_kept cleared pass v k (raised_kept p.ended (slice_index cleared pass) word (most pass)) in
    let rest : slice_index (slice_set cleared pass v) k ≤ slice_index (cleared_from p.ended (pass + 1) words (slice_set cleared pass v)) k = cleared_kept p q (pass + 1) words (slice_set cleared pass v) each.1 (λ j. set_at p.ended cleared pass v j (raised_most p.ended (slice_index cleared pass) word (most pass) each.0.closed_or_open) (most j)) k in
    omega (arith, here, rest)

low_here : (p : PenPart) (q : PassPart) (pass : ℕ) (words next : List ℕ) (scan : Scan) (v : ℕ) → AreWordsFrom p q (pass + 1) words → ((k : ℕ) → slice_index next k ≤ p.ended) → slice_index next pass ≡ v → min scan.least p.ended ≤ v
    → min (least_from (pass + 1) words scan).least p.ended ≤ slice_index (cleared_from p.ended (pass + 1) words next) pass
low_here p q pass words next scan v each most at low =
    let b : slice_index next pass ≤ slice_index (cleared_from p.ended (pass + 1) words next) pass = cleared_kept p q (pass + 1) words next each most pass in
    let d : (least_from (pass + 1) words scan).least ≤ scan.least = least_low (pass + 1) words scan in
    omega (arith, at, b, low, d)

pub cleared_low : (p : PenPart) (q : PassPart) (pass : ℕ) (words cleared : List ℕ) (scan : Scan) → AreWordsFrom p q pass words → ((k : ℕ) → slice_index cleared k ≤ p.ended)
    → (k : ℕ) → pass ≤ k → k < pass + length words → k < length cleared → min (least_from pass words scan).least p.ended ≤ slice_index (cleared_from p.ended pass words cleared) k
cleared_low p q pass [] cleared scan each most k low high has = absurd (omega arith)
cleared_low p q pass (word ∷ words) cleared scan each most k low high has =
    let v : ℕ = raised p.ended (slice_index cleared pass) word in
    let next : List ℕ = slice_set cleared pass v in
    let within : (j : ℕ) → slice_index next j ≤ p.ended = λ j. set_at p.ended cleared pass v j (raised_most p.ended (slice_index cleared pass) word (most pass) each.0.closed_or_open) (most j) in
    elim (eqb_tells k pass) [
      | inl same ↦ rw same.1 (low_here p q pass words next (lesser pass word scan) v each.1 within (get_or-set_same cleared pass v 0 (omega (arith, same.1))) (raised_low pass p.ended (slice_index cleared pass) word scan))
      | inr other ↦ cleared_low p q (pass + 1) words next (lesser pass word scan) each.1 within k (omega (arith, other.1)) (omega arith) (omega (arith, length-set cleared pass v))
    ]

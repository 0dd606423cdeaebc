-- The first lines of a text, and how many of its lines are ended.
use Rattle.mt_told.proofs.Prelude.{◌≡◌, ◌≢◌, ◌⊎◌, ℕ, zero, suc, ◌+◌, ◌≤◌, true, false, List, [], ◌∷◌, ◌++◌, length, take, append_assoc, refl, sym, ap, ◌∙◌, inl, inr, arith, ◌==◌, flat_map, cases_Bool, eqb-true, Range, range_text, range_line, HasNoByte, AreSmall, ended_lines, first_lines}
use Rattle.mt_told.proofs.RangeLines.{range_in_line}

-- ---- one line

differs : (b : ℕ) → b ≢ 10 → (b == 10) ≡ false
differs b other = elim (cases_Bool (b == 10)) [ inl is ↦ absurd (other (eqb-true b 10 is)) | inr not_is ↦ not_is ]

pub firsts_behind : (words rest : List ℕ) (n : ℕ) → HasNoByte 10 words → first_lines (suc n) (words ++ (10 ∷ rest)) ≡ words ++ (10 ∷ first_lines n rest)
firsts_behind [] rest n none = refl
firsts_behind (b ∷ words) rest n none = rw (differs b none.0) (ap (λ (t : List ℕ). b ∷ t) (firsts_behind words rest n none.1))

pub ended_behind : (words rest : List ℕ) → HasNoByte 10 words → ended_lines (words ++ (10 ∷ rest)) ≡ 1 + ended_lines rest
ended_behind [] rest none = omega arith
ended_behind (b ∷ words) rest none = rw (differs b none.0) (ended_behind words rest none.1)

-- a piece without LF
pub first_of_piece : (words : List ℕ) (n : ℕ) → HasNoByte 10 words → first_lines (suc n) words ≡ words
first_of_piece [] n none = refl
first_of_piece (b ∷ words) n none = rw (differs b none.0) (ap (λ (t : List ℕ). b ∷ t) (first_of_piece words n none.1))

pub none_ended : (words : List ℕ) → HasNoByte 10 words → ended_lines words ≡ 0
none_ended [] none = refl
none_ended (b ∷ words) none = rw (differs b none.0) (none_ended words none.1)

pub no_lines : (text : List ℕ) → first_lines 0 text ≡ []
no_lines text = refl

-- ---- lines of ranges

range_right : (r : Range) (ranges : List Range) (rest : List ℕ) → flat_map range_line (r ∷ ranges) ++ rest ≡ range_text r ++ (10 ∷ (flat_map range_line ranges ++ rest))
range_right r ranges rest = simp append_assoc

pub firsts_of_ranges : (ranges : List Range) (rest : List ℕ) (n : ℕ) → AreSmall ranges → first_lines (length ranges + n) (flat_map range_line ranges ++ rest) ≡ flat_map range_line ranges ++ first_lines n rest
firsts_of_ranges [] rest n small = ap (λ (k : ℕ). first_lines k rest) (no_more n)
  where
    no_more : (k : ℕ) → 0 + k ≡ k
    no_more k = omega arith
firsts_of_ranges (r ∷ ranges) rest n small =
    ap (λ (k : ℕ). first_lines k (flat_map range_line (r ∷ ranges) ++ rest)) (one_more (length ranges) n)
    ∙ (ap (first_lines (suc (length ranges + n))) (range_right r ranges rest)
    ∙ (firsts_behind (range_text r) (flat_map range_line ranges ++ rest) (length ranges + n) (range_in_line r small.0)
    ∙ (ap (λ (t : List ℕ). range_text r ++ (10 ∷ t)) (firsts_of_ranges ranges rest n small.1)
    ∙ sym (range_right r ranges (first_lines n rest)))))
  where
    one_more : (a b : ℕ) → suc a + b ≡ suc (a + b)
    one_more a b = omega arith

pub few_of_ranges : (ranges : List Range) (rest : List ℕ) (n : ℕ) → AreSmall ranges → n ≤ length ranges → first_lines n (flat_map range_line ranges ++ rest) ≡ flat_map range_line (take n ranges)
few_of_ranges ranges rest zero small few = refl
few_of_ranges [] rest (suc n) small few = absurd (omega (arith, few))
few_of_ranges (r ∷ ranges) rest (suc n) small few =
    ap (first_lines (suc n)) (range_right r ranges rest)
    ∙ (firsts_behind (range_text r) (flat_map range_line ranges ++ rest) n (range_in_line r small.0)
    ∙ (ap (λ (t : List ℕ). range_text r ++ (10 ∷ t)) (few_of_ranges ranges rest n small.1 (omega (arith, few)))
    ∙ simp append_assoc))

pub ended_of_ranges : (ranges : List Range) (rest : List ℕ) → AreSmall ranges → ended_lines (flat_map range_line ranges ++ rest) ≡ length ranges + ended_lines rest
ended_of_ranges [] rest small = omega arith
ended_of_ranges (r ∷ ranges) rest small =
    let line = ap ended_lines (range_right r ranges rest) ∙ ended_behind (range_text r) (flat_map range_line ranges ++ rest) (range_in_line r small.0) in
    let more = ended_of_ranges ranges rest small.1 in
    omega (arith, line, more)

-- ---- a text has a first line that is ended, or is one piece

pub record HasLine (text : List ℕ) : Type 0 where
  pub words : List ℕ
  pub rest : List ℕ
  pub one : HasNoByte 10 words
  pub is : text ≡ words ++ (10 ∷ rest)

pub first_line : (text : List ℕ) → HasNoByte 10 text ⊎ HasLine text
first_line [] = inl tt
first_line (b ∷ text) = elim (cases_Bool (b == 10)) [
  | inl here ↦ inr (record { words = []; rest = text; one = tt; is = ap (λ (c : ℕ). c ∷ text) (eqb-true b 10 here) })
  | inr not_here ↦ elim (first_line text) [
    | inl none ↦ inl (apart_from b not_here, none)
    | inr line ↦ inr (record { words = b ∷ line.words; rest = line.rest; one = (apart_from b not_here, line.one); is = ap (λ (t : List ℕ). b ∷ t) line.is })
  ]
]
  where
    apart_from : (c : ℕ) → (c == 10) ≡ false → c ≢ 10
    apart_from c fails is = let holds : (c == 10) ≡ true = ap (λ (x : ℕ). x == 10) is in absurd (cc)

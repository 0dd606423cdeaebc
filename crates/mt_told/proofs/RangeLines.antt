-- Lines of ranges stand at the front of a text in one way.
use Rattle.mt_told.proofs.Prelude.{◌≡◌, ℕ, ◌<◌, ◌^◌, List, [], ◌∷◌, ◌++◌, Some, append_assoc, arith, length, refl, sym, ap, ◌∙◌, decimal, flat_map, flat_map-append, length-append, Range, range_text, range_line, IsNumberBefore, IsSmallRange, AreRangesBefore, BeginsWithNoRange, IsRangeLineBefore, HasNoByte, AreSmall}
use Rattle.mt_told.proofs.OneWay.{numbers_apart}
use Rattle.mt_told.proofs.FirstLines.{number_lacks, space}
use Rattle.mt_told.proofs.Words.{lacked_by_both}

-- grouped to the right
right : (r : Range) (rest : List ℕ) → range_line r ++ rest ≡ decimal r.first ++ (32 ∷ (decimal r.last ++ (32 ∷ (decimal r.entry ++ (10 ∷ rest)))))
right r rest = simp append_assoc

-- ---- what is read

pub range_before : (text behind behind_both rest : List ℕ) (first last entry : ℕ) → first < 2 ^ 64 → last < 2 ^ 64 → entry < 2 ^ 64
    → IsNumberBefore text 32 first behind → IsNumberBefore behind 32 last behind_both → IsNumberBefore behind_both 10 entry rest
    → IsRangeLineBefore text (record { first = first; last = last; entry = entry }) rest
range_before text behind behind_both rest first last entry a b c one two three = record {
  small = (a, b, c);
  printed = one.printed ∙ (ap (λ (t : List ℕ). decimal first ++ (32 ∷ t)) (two.printed ∙ ap (λ (t : List ℕ). decimal last ++ (32 ∷ t)) three.printed)
      ∙ sym (right (record { first = first; last = last; entry = entry }) rest));
}

pub no_first : (text : List ℕ) → ((number : ℕ) (rest : List ℕ) → number < 2 ^ 64 → text ≡ decimal number ++ (32 ∷ rest) → ⊥) → BeginsWithNoRange text
no_first text none r rest small is = none r.first _ small.0 (is ∙ right r rest)

module _ (text behind : List ℕ) (first : ℕ) (one : IsNumberBefore text 32 first behind) where
  behind_first : (r : Range) (rest : List ℕ) → IsSmallRange (Some r) → text ≡ range_line r ++ rest → behind ≡ decimal r.last ++ (32 ∷ (decimal r.entry ++ (10 ∷ rest)))
  behind_first r rest small is = sym (one.only r.first _ small.0 (is ∙ right r rest)).1

  pub no_last : ((number : ℕ) (rest : List ℕ) → number < 2 ^ 64 → behind ≡ decimal number ++ (32 ∷ rest) → ⊥) → BeginsWithNoRange text
  no_last none r rest small is = none r.last _ small.1 (behind_first r rest small is)

  pub no_entry : (behind_both : List ℕ) (last : ℕ) → IsNumberBefore behind 32 last behind_both
      → ((number : ℕ) (rest : List ℕ) → number < 2 ^ 64 → behind_both ≡ decimal number ++ (10 ∷ rest) → ⊥) → BeginsWithNoRange text
  no_entry behind_both last two none r rest small is = none r.entry rest small.2 (sym (two.only r.last _ small.1 (behind_first r rest small is)).1)

-- the range in front, or none
pub ruleset range_or_none = (range_before, no_first, no_last, no_entry)

-- ---- one range more

small_push : (ranges : List Range) (r : Range) → AreSmall ranges → IsSmallRange (Some r) → AreSmall (ranges ++ r ∷ [])
small_push [] r all one = (one, tt)
small_push (x ∷ ranges) r all one = (all.0, small_push ranges r all.1 one)

pub none_yet : (text : List ℕ) → AreRangesBefore text [] text
none_yet text = record { small = tt; printed = refl }

pub one_more : (text rest behind : List ℕ) (ranges : List Range) (r : Range) → AreRangesBefore text ranges rest → IsRangeLineBefore rest r behind → AreRangesBefore text (ranges ++ r ∷ []) behind
one_more text rest behind ranges r so_far one = record {
  small = small_push ranges r so_far.small one.small;
  printed = so_far.printed ∙ (ap (λ (t : List ℕ). flat_map range_line ranges ++ t) one.printed ∙ pushed);
}
  where
    pushed : flat_map range_line ranges ++ (range_line r ++ behind) ≡ flat_map range_line (ranges ++ r ∷ []) ++ behind
    pushed = sym (ap (λ (t : List ℕ). t ++ behind) (flat_map-append range_line ranges (r ∷ [])) ∙ simp append_assoc)

-- ---- two ranges

abbrev of_numbers : ℕ → ℕ → ℕ → Range
of_numbers first last entry = record { first = first; last = last; entry = entry }

range_is : (a b : Range) → a.first ≡ b.first → a.last ≡ b.last → a.entry ≡ b.entry → a ≡ b
range_is a b first last entry =
    ap (λ (n : ℕ). of_numbers n a.last a.entry) first ∙ (ap (λ (n : ℕ). of_numbers b.first n a.entry) last ∙ ap (λ (n : ℕ). of_numbers b.first b.last n) entry)

-- two lines of ranges in front are one where the texts are one
apart : (a b : Range) (r s : List ℕ) → IsSmallRange (Some a) → IsSmallRange (Some b) → range_line a ++ r ≡ range_line b ++ s → (a ≡ b) × (r ≡ s)
apart a b r s left right_small same =
    let firsts = numbers_apart a.first b.first _ _ (sym (right a r) ∙ (same ∙ right b s)) left.0 right_small.0 refl refl in
    let lasts_at : 32 ∷ (decimal a.last ++ (32 ∷ (decimal a.entry ++ (10 ∷ r)))) ≡ 32 ∷ (decimal b.last ++ (32 ∷ (decimal b.entry ++ (10 ∷ s)))) = firsts.rest in
    let lasts = numbers_apart a.last b.last (32 ∷ (decimal a.entry ++ (10 ∷ r))) (32 ∷ (decimal b.entry ++ (10 ∷ s))) (cc) left.1 right_small.1 refl refl in
    let entries_at : 32 ∷ (decimal a.entry ++ (10 ∷ r)) ≡ 32 ∷ (decimal b.entry ++ (10 ∷ s)) = lasts.rest in
    let entries = numbers_apart a.entry b.entry (10 ∷ r) (10 ∷ s) (cc) left.2 right_small.2 refl refl in
    let rests : 10 ∷ r ≡ 10 ∷ s = entries.rest in
    (range_is a b firsts.number lasts.number entries.number, cc)

pub one_range : (a b : Range) (r s : List ℕ) → IsSmallRange (Some a) → IsSmallRange (Some b) → range_line a ++ r ≡ range_line b ++ s → a ≡ b
one_range a b r s left right_small same = (apart a b r s left right_small same).0

pub ranges_apart : (a b : Range) (r s : List ℕ) → IsSmallRange (Some a) → IsSmallRange (Some b) → range_line a ++ r ≡ range_line b ++ s → r ≡ s
ranges_apart a b r s left right_small same = (apart a b r s left right_small same).1

-- there is a line at least
pub filled : (r : Range) (rest : List ℕ) → range_line r ++ rest ≡ [] → ⊥
filled r rest none = let long = ap length none in absurd (omega (arith, long, ap length (append_assoc (range_text r) (10 ∷ []) rest), length-append (range_text r) (10 ∷ rest)))

-- ---- the line of a range is one line

pub range_in_line : (r : Range) → IsSmallRange (Some r) → HasNoByte 10 (range_text r)
range_in_line r small =
    lacked_by_both 10 (decimal r.first) _ (number_lacks r.first small.0)
    (space, lacked_by_both 10 (decimal r.last) _ (number_lacks r.last small.1) (space, number_lacks r.entry small.2))

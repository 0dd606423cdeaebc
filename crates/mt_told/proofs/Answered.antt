-- Answers stand at the front of a text in one way.
use Rattle.mt_told.proofs.Prelude.{◌≡◌, ◌≢◌, ℕ, true, List, ◌∷◌, ◌++◌, Option, Some, None, get_or, append_assoc, codes, refl, sym, ap, ◌∙◌, arith, decimal, Range, Query, Load, Find, Next, Prev, Rfind, Answer, shown, shown_range, IsAnswerBefore, IsEntryBefore, IsFoundBefore, answer_line, entry_line, tells_entry, IsNumberBefore, IsSmallRange}
use Rattle.mt_log.specs.declared.transcripts.Answer.TheVariants as answers
use Rattle.mt_told.specs.Answers.{range_line}

-- ---- the texts, grouped to the right

entry_text : (entry : ℕ) (rest : List ℕ) → entry_line entry ++ rest ≡ codes "entry " ++ (decimal entry ++ (10 ∷ rest))
entry_text entry rest = simp append_assoc

range_text_right : (r : Range) (rest : List ℕ) → range_line r ++ rest ≡ codes "range " ++ (decimal r.first ++ (32 ∷ (decimal r.last ++ (32 ∷ (decimal r.entry ++ (10 ∷ rest))))))
range_text_right r rest = simp append_assoc

-- ---- entries

pub entry_before : (text number rest : List ℕ) (entry : ℕ) → text ≡ codes "entry " ++ number → IsNumberBefore number 10 entry rest → IsEntryBefore text entry rest
entry_before text number rest entry is before =
    record {
      printed = is ∙ (ap (λ (t : List ℕ). codes "entry " ++ t) before.printed ∙ sym (entry_text entry rest));
      only = λ e r small other.
          (let same : codes "entry " ++ number ≡ codes "entry " ++ (decimal e ++ (10 ∷ r)) = sym is ∙ (other ∙ entry_text e r) in
          let front : number ≡ decimal e ++ (10 ∷ r) = (cc) in
          before.only e r small front);
    }

pub no_entry : (text number rest : List ℕ) (entry : ℕ) → text ≡ codes "entry " ++ number → text ≡ entry_line entry ++ rest → number ≡ decimal entry ++ (10 ∷ rest)
no_entry text number rest entry is other =
    let same : codes "entry " ++ number ≡ codes "entry " ++ (decimal entry ++ (10 ∷ rest)) = sym is ∙ (other ∙ entry_text entry rest) in
    (cc)

-- ---- what a query is told

pub entry_found : (query : Query) (text rest : List ℕ) (entry : ℕ) → tells_entry query ≡ true → IsEntryBefore text entry rest → IsFoundBefore query text (answers.Entry entry) rest
entry_found (Load index) text rest entry tells before =
    record {
      told = (record { first = 0; last = 0; entry = entry }, refl);
      printed = before.printed;
      only = λ range r small other. (let one = before.only range.entry r small.2 other in (ap answers.Entry one.0, one.1));
    }
entry_found (Find index max) text rest entry tells before = absurd (cc)
entry_found (Next index max) text rest entry tells before = absurd (cc)
entry_found (Prev index min) text rest entry tells before = absurd (cc)
entry_found (Rfind index min) text rest entry tells before = absurd (cc)

-- what is told of nothing, and of a range
abbrev none_line : List ℕ → List ℕ
none_line rest = codes "none\n" ++ rest

first_of_found : (query : Query) (range : Range) (rest : List ℕ) → get_or (answer_line (shown_range query range) ++ rest) 0 0 ≢ 110
first_of_found (Load index) range rest is = absurd (omega (arith, is))
first_of_found (Find index max) range rest is = absurd (omega (arith, is))
first_of_found (Next index max) range rest is = absurd (omega (arith, is))
first_of_found (Prev index min) range rest is = absurd (omega (arith, is))
first_of_found (Rfind index min) range rest is = absurd (omega (arith, is))

pub none_answered : (query : Query) (text rest : List ℕ) → text ≡ none_line rest → IsAnswerBefore query text answers.None rest
none_answered query text rest is = record { told = (None, refl); printed = is; only = only_none }
  where
    only_none : (value : Option Range) (r : List ℕ) → IsSmallRange value → text ≡ answer_line (shown query value) ++ r → (shown query value ≡ answers.None) × (r ≡ rest)
    only_none None r small other = (refl, cc)
    only_none (Some range) r small other = absurd (first_of_found query range r (ap (λ (t : List ℕ). get_or t 0 0) (sym other ∙ is)))

pub found_answered : (query : Query) (text rest : List ℕ) (answer : Answer) → ((r : List ℕ) → text ≡ none_line r → ⊥) → IsFoundBefore query text answer rest → IsAnswerBefore query text answer rest
found_answered query text rest answer some found = record { told = (Some found.told.0, found.told.1); printed = found.printed; only = only_found }
  where
    only_found : (value : Option Range) (r : List ℕ) → IsSmallRange value → text ≡ answer_line (shown query value) ++ r → (shown query value ≡ answer) × (r ≡ rest)
    only_found None r small other = absurd (some r other)
    only_found (Some range) r small other = found.only range r small other

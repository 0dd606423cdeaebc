-- What a query returned, at the beginning of a text.
-- Source: this project's own.
use Rattle.std.specs.Prelude.{◌≡◌, ℕ, ◌<◌, ◌^◌, Bool, true, false, List, [], ◌∷◌, ◌++◌, Option, Some}
use Rattle.mt_told.specs.Prelude.{Range, Query, Load, Answer, shown, shown_range, answer_text}
use Rattle.mt_log.specs.declared.transcripts.Answer.TheVariants as answers
use Rattle.mt_told.specs.Telling.{IsSmallRange}

-- an answer and its LF
abbrev pub answer_line : Answer → List ℕ
answer_line answer = answer_text answer ++ (10 ∷ [])

abbrev pub entry_line : ℕ → List ℕ
entry_line entry = answer_line (answers.Entry entry)

abbrev pub range_line : Range → List ℕ
range_line range = answer_line (answers.Range range)

-- a load returns the entry alone
abbrev pub tells_entry : Query → Bool
tells_entry (Load index) = true
tells_entry query = false

-- the text begins with this entry, before the rest, and with no other
pub record IsEntryBefore (text : List ℕ) (entry : ℕ) (rest : List ℕ) : Type 0 where
  pub printed : text ≡ entry_line entry ++ rest
  pub only : (e : ℕ) (r : List ℕ) → e < 2 ^ 64 → text ≡ entry_line e ++ r → (e ≡ entry) × (r ≡ rest)

-- the range does
pub record IsRangeBefore (text : List ℕ) (range : Range) (rest : List ℕ) : Type 0 where
  pub printed : text ≡ range_line range ++ rest
  pub only : (found : Range) (r : List ℕ) → IsSmallRange (Some found) → text ≡ range_line found ++ r → (found ≡ range) × (r ≡ rest)

-- the text begins with this answer of a query that found something
pub record IsFoundBefore (query : Query) (text : List ℕ) (answer : Answer) (rest : List ℕ) : Type 0 where
  pub told : (range : Range) × (shown_range query range ≡ answer)
  pub printed : text ≡ answer_line answer ++ rest
  pub only : (range : Range) (r : List ℕ) → IsSmallRange (Some range) → text ≡ answer_line (shown_range query range) ++ r → (shown_range query range ≡ answer) × (r ≡ rest)

-- the text begins with this answer of the query
pub record IsAnswerBefore (query : Query) (text : List ℕ) (answer : Answer) (rest : List ℕ) : Type 0 where
  pub told : (value : Option Range) × (shown query value ≡ answer)
  pub printed : text ≡ answer_line answer ++ rest
  pub only : (value : Option Range) (r : List ℕ) → IsSmallRange value → text ≡ answer_line (shown query value) ++ r → (shown query value ≡ answer) × (r ≡ rest)

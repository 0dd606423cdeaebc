-- How many nodes each tree has, by the words.
-- Source: this project's own.
use Rattle.std.specs.Prelude.{◌≡◌, ℕ, ◌≤◌, List, [], ◌∷◌, codes}
use Rattle.std.specs.Str.Parse.{IsNumeral, digits_value, without_leading_plus}
use Rattle.mt_judge.specs.Prelude.{most_rows}

-- a word writes this number
pub record WritesRows (word : List ℕ) (rows : ℕ) : Type 0 where
  pub numeral : IsNumeral 10 (without_leading_plus word)
  pub value : rows ≡ digits_value 10 (without_leading_plus word)
  pub few : 4 ≤ rows
  pub most : rows ≤ most_rows

-- no words, for as many as a tree may have; or `--rows` and a number
abbrev pub AskRows : List (List ℕ) → ℕ → Type 0
AskRows [] rows = rows ≡ most_rows
AskRows (option ∷ word ∷ []) rows = (option ≡ codes "--rows") × WritesRows word rows
AskRows words rows = ⊥

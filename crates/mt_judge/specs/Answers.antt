-- What is printed of words and an input, and the status.
-- Source: this project's own.
use Rattle.std.specs.Prelude.{◌≡◌, ℕ, List, string_bytes}
use Rattle.mt_judge.specs.Judged.{IsJudgedIn}
use Rattle.mt_judge.specs.Printed.{judgment_text, status_of}
use Rattle.mt_judge.specs.Words.{AskRows}
use Rattle.mt_judge.specs.declared.answers.ToldAnswer.{ToldAnswer}
use Rattle.mt_judge.specs.declared.judging.Judgment.{Judgment}

-- the input is judged over trees of as many nodes as the words ask for, and the judgment is printed
abbrev pub IsAnswerTo : List (List ℕ) → List ℕ → ToldAnswer → Type 0
IsAnswerTo words bytes answer = (rows : ℕ) × (j : Judgment) × AskRows words rows × IsJudgedIn rows bytes j
    × (string_bytes answer.text ≡ judgment_text j) × (answer.status ≡ status_of j.found)

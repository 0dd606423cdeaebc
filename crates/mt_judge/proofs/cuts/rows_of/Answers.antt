use Rattle.mt_judge.proofs.Prelude.{ℕ, List, Global, IfNone, string_bytes, sym, subst, AskRows}
use Rattle.mt_judge.proofs.Pairs.{two_words}
use Rattle.mt_judge.proofs.cuts.rows_of.Goals as goal

pub returns-in-len2-clause-none : goal.returns-in-len2-clause-none
returns-in-len2-clause-none c =
    let are = two_words (string_bytes {Z = Global}) c.args.words.now c.option-item.result c.word-item.result c.as_str.result.now c.as_str-in-len2.result.now c.in-len2.len_at_least c.in-len2.len_below c.option-item.is c.word-item.is c.as_str.ensures.value c.as_str-in-len2.ensures.value in
    subst (λ (words : List (List ℕ)). IfNone c.rows_said.result ((rows : ℕ) → AskRows words rows → ⊥)) (sym are) c.rows_said.ensures.none

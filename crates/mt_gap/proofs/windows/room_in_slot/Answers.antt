use Rattle.mt_gap.proofs.Prelude.{◌≡◌, ℕ, Some, true, false, refl, sym, ap, ◌∙◌, Gapped, Rooted, Sheet, Child, child_in, word_in, gap_in, may_have}
use Rattle.mt_gap.proofs.windows.room_in_slot.Goals as goal

pub returns-then-not-may_have-clause-child : goal.returns-then-not-may_have-clause-child
returns-then-not-may_have-clause-child g c =
    let t = (g.R.Rows.sheet c.args.rows.now).tree.table in let w = c.args.window in
    let word = word_in t Gapped c.args.at.row c.args.at.slot in let x = child_in t Gapped c.args.at.row c.args.at.slot c.args.first c.args.last in
    let less : may_have w.size w.lo w.hi x ≡ false = (λ i. may_have w.size w.lo w.hi (record { span = record { first = c.args.first; last = c.args.last; word = word }; gap = sym {A = ℕ} {a = c.load_gap-gap.result} {b = gap_in t Gapped c.args.at.row c.args.at.slot} c.load_gap-gap.ensures.gap i })) ∙ (sym (c.may_have.ensures word) ∙ c.if-not-may_have.true) in
    rw less refl

pub returns-clause-child : goal.returns-clause-child
returns-clause-child g c =
    let t = (g.R.Rows.sheet c.args.rows.now).tree.table in let w = c.args.window in
    let word = word_in t Gapped c.args.at.row c.args.at.slot in let x = child_in t Gapped c.args.at.row c.args.at.slot c.args.first c.args.last in
    let may : may_have w.size w.lo w.hi x ≡ true = (λ i. may_have w.size w.lo w.hi (record { span = record { first = c.args.first; last = c.args.last; word = word }; gap = sym {A = ℕ} {a = c.load_gap-gap.result} {b = gap_in t Gapped c.args.at.row c.args.at.slot} c.load_gap-gap.ensures.gap i })) ∙ (sym (c.may_have.ensures word) ∙ c.if-not-may_have.false) in
    let same_word : c.load_word-word.result ≡ word = c.load_word-word.ensures.word ∙ ap (λ (r : Rooted). word_in r.table Gapped c.args.at.row c.args.at.slot) (ap (λ (r : Sheet). r.tree) c.load_gap-gap.ensures.rest) in
    let same_child : record { span = record { first = c.args.first; last = c.args.last; word = c.load_word-word.result }; gap = c.load_gap-gap.result } ≡ x = (λ i. record { span = record { first = c.args.first; last = c.args.last; word = same_word i }; gap = c.load_gap-gap.ensures.gap i }) in
    rw may (ap (λ (y : Child). Some y) same_child)

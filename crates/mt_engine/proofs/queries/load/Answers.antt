use Rattle.mt_engine.proofs.Prelude.{ap, refl, ◌≡◌, ◌≢◌, ℕ, ◌<◌, ◌≤◌, subst, ◌∙◌, Some, Span, handle_in, range_of}
use Rattle.mt_engine.proofs.IndexesAbove.{load_above}
use Rattle.mt_engine.proofs.SlotQueries.{handle_of, load_held, load_hole}
use Rattle.mt_engine.proofs.queries.load.Goals as goal

pub returns-then-index-top_of-clause-answer : goal.returns-then-index-top_of-clause-answer
returns-then-index-top_of-clause-answer g c =
    load_above _ c.requires.tree c.args.index (subst (λ (n : ℕ). n < c.args.index) c.top_of.ensures c.if-index-top_of.true)

pub returns-then-here-eq0-clause-answer : goal.returns-then-here-eq0-clause-answer
returns-then-here-eq0-clause-answer g c =
    let t = (g.R.Rows.sheet c.args.rows.now).tree in
    let ok = c.in_ok-here in
    let at = handle_of t c.args.index (handle_in t c.args.index) (subst (λ (n : ℕ). c.args.index ≤ n) c.top_of.ensures c.if-index-top_of.false) ok.ensures.none refl in
    load_hole t c.requires.tree c.args.index (handle_in t c.args.index) at (subst (λ (s : Span). s.word ≡ 0) ok.ensures.some c.if-here-eq0.true)

pub returns-clause-answer : goal.returns-clause-answer
returns-clause-answer g c =
    let t = (g.R.Rows.sheet c.args.rows.now).tree in
    let ok = c.in_ok-here in
    let at = handle_of t c.args.index (handle_in t c.args.index) (subst (λ (n : ℕ). c.args.index ≤ n) c.top_of.ensures c.if-index-top_of.false) ok.ensures.none refl in
    ap Some c.range_in.ensures ∙ (ap (λ (s : Span). Some (range_of s)) ok.ensures.some
    ∙ load_held t c.requires.tree c.args.index (handle_in t c.args.index) at (subst (λ (s : Span). s.word ≢ 0) ok.ensures.some c.if-here-eq0.false))

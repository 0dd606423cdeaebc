use Rattle.mt_verify.proofs.Prelude.{◌≡◌, ◌∙◌, ℕ, List, Option, Some, None, Result, Err, Contains, IfOk, MatchOption, IsPermutation, map, arith, ap, subst, Numbered, AreCallsOf, calls_told, filled_from}
use Rattle.std.proofs.Common.{Ok}
use Rattle.mt_verify.proofs.EachOnce.{as_many, none_with_free}
use Rattle.mt_verify.proofs.Placed.{filled_all}
use Rattle.mt_verify.proofs.calls.calls_in.Goals as goal

pub returns-then-not-fill : goal.returns-then-not-fill
returns-then-not-fill c = λ list are. c.if-not-fill.ensures.not list (omega (arith, as_many c.args.tree c.args.told.now list are, c.requires.count)) are

-- what is known of a value that is there, or of its absence
onwards : {A E : Type 0} (r : Result (Option A) E) (P Q : Type 0) (F G : A → Type 0) → (P → Q) → ((x : A) → F x → G x) → IfOk r (λ o. MatchOption o P F) → IfOk r (λ o. MatchOption o Q G)
onwards (Ok None) P Q F G none some h = none h
onwards (Ok (Some x)) P Q F G none some h = some x h
onwards (Err e) P Q F G none some h = h

pub returns : goal.returns
returns c =
    let tree = c.args.tree in
    let told = c.args.told.now in
    let places = c.fill.new.places in
    onwards c.all_of.result (Contains places None) ((list : List Numbered) → AreCallsOf tree told list → ⊥) (λ calls. places ≡ map Some calls.items) (λ calls. AreCallsOf tree told calls.items)
    (λ free list are. none_with_free tree told list are places c.if-not-fill.ensures.filled (omega (arith, as_many tree told list are, c.requires.count, c.fill.auto.places)) free)
    (λ calls full. subst (λ (l : List (ℕ × Numbered)). IsPermutation l (calls_told tree told)) (ap (filled_from 1) full ∙ filled_all 1 calls.items) c.if-not-fill.ensures.filled)
    c.all_of.ensures

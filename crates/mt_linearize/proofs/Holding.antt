-- What a pass was answered stands in the tree's whole history: each call is the record of its number, and each read is true.
use Rattle.mt_linearize.proofs.Prelude.{◌≡◌, ℕ, ◌+◌, ◌<◌, List, [], ◌∷◌, ◌++◌, length, take, arith, sym, ap, ◌∙◌, subst, append_assoc, length-append, AllByRecursion, take-append-le, Record, History, Pass, Begins, IsSettled, with_records, Outcome, Called, Looked, Counted, Step, Does, Leads, outcomes_of, Tracked, IsPhaseOn, StandsInHistory, On}
use Rattle.mt_linearize.proofs.Knowing.{does_onward, leads_onward}
use Rattle.mt_linearize.proofs.LanePasses.{Lane, lane_in}
use Rattle.mt_linearize.proofs.EachLane.{each_on}

pub holds_more : (tree : History) (xs ys : List Record) (lane : ℕ) (o : Outcome) → Begins xs ys → StandsInHistory (with_records tree xs) lane o → StandsInHistory (with_records tree ys) lane o
holds_more tree xs ys lane (Called number call reply) b h = record {
  front = h.front;
  rest = h.rest ++ b.0;
  is = b.1 ∙ (ap (λ z. z ++ b.0) h.is ∙ append_assoc h.front (record { pass = lane; call = call; reply = reply } ∷ h.rest) b.0);
  at = h.at;
}
holds_more tree xs ys lane (Looked lo hi k query value) b t =
    let kept : take k ys ≡ take k xs = ap (take k) b.1 ∙ take-append-le k xs b.0 t.made in
    let long : length ys ≡ length xs + length b.0 = ap length b.1 ∙ length-append xs b.0 in
    record { from = t.from; to = t.to; made = omega (arith, t.made); answered = rw kept t.answered }
holds_more tree xs ys lane (Counted said ranges) b h = tt

does_hold : (tree : History) (lane : ℕ) (p : Pass) (o : Outcome) (q : Pass) → p.number ≡ lane → Does tree p o q → StandsInHistory (with_records tree q.seen) lane o
does_hold tree lane p (Called number call reply) q e (closed, d) =
    let is : q.seen ≡ (p.seen ++ d.others) ++ record { pass = lane; call = call; reply = reply } ∷ [] = ap (λ (z : Pass). z.seen) d.pass ∙ ap (λ (n : ℕ). (p.seen ++ d.others) ++ record { pass = n; call = call; reply = reply } ∷ []) e in
    record { front = p.seen ++ d.others; rest = []; is = is; at = sym d.last }
does_hold tree lane p (Looked lo hi k query value) q e d = d.true
does_hold tree lane p (Counted said ranges) q e d = tt

leads_hold : (tree : History) (lane : ℕ) (p : Pass) (os : List Outcome) (q : Pass) → p.number ≡ lane → Leads tree p os q → AllByRecursion (StandsInHistory (with_records tree q.seen) lane) os
leads_hold tree lane p [] q e l = tt
leads_hold tree lane p (o ∷ os) q e (m, n, learns, does, leads) =
    let there : m.number ≡ lane = learns.grows.number ∙ e in
    (holds_more tree n.seen q.seen lane o (leads_onward tree n os q leads).seen (does_hold tree lane m o n there does), leads_hold tree lane n os q ((does_onward tree m o n does).number ∙ there) leads)

pub phase_holds : (passes number : ℕ) (steps : List Step) (b a : Tracked) → length b.passes ≡ passes → IsSettled b.history b.passes → AllByRecursion (λ (s : Step). s.lane < passes) steps → IsPhaseOn number steps b a → AllByRecursion (On number (λ (s : Step). StandsInHistory a.history s.lane s.outcome)) steps
phase_holds passes number steps b a count start within ph =
    each_on (StandsInHistory a.history) number passes steps within (λ lane l.
    let x : Lane number steps b a lane = lane_in number steps b a lane start ph (omega (arith, count)) in
    let seen : with_records b.history x.q.seen ≡ a.history = ap (with_records b.history) x.seen ∙ sym ph.tree in
    subst (λ (z : History). AllByRecursion (StandsInHistory z lane) (outcomes_of number lane steps)) seen (leads_hold b.history lane x.p (outcomes_of number lane steps) x.q x.numbered x.leads))

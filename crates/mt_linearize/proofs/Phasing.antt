-- A phase lies between the calls that were made before it and those that were made when it has gone by, and its steps are in
-- order.
use Rattle.mt_linearize.proofs.Prelude.{◌≡◌, ℕ, ◌<◌, ◌≤◌, List, length, arith, ap, inl, inr, AllByRecursion, Pass, IsSettled, begins_long, Outcome, Called, Looked, Counted, Step, Follows, Knows, outcomes_of, Tracked, IsPhaseOn, Pairs, On, TellsUpTo, OrderOn}
use Rattle.mt_linearize.proofs.Knowing.{Behind, Known, leads_behind, leads_known, leads_follow}
use Rattle.mt_linearize.proofs.LanePasses.{Lane, lane_in, phase_begins}
use Rattle.mt_linearize.proofs.EachLane.{OneLane, each_on, pairs_on}
use Rattle.mt_linearize.proofs.Lists.{every, pairs_with}

-- a step behind the first so many calls
abbrev pub Above : ℕ → Outcome → Type 0
Above n (Called number call reply) = n < number
Above n (Looked lo hi k query value) = (n ≤ lo) × (n ≤ k)
Above n (Counted said ranges) = Unit {0}

pub upto_more : (m n : ℕ) (o : Outcome) → m ≤ n → TellsUpTo m o → TellsUpTo n o
upto_more m n (Called number call reply) l a = omega arith
upto_more m n (Looked lo hi k query value) l a = (omega arith, omega arith, omega arith)
upto_more m n (Counted said ranges) l a = tt

pub upto_follows : (n : ℕ) (o other : Outcome) → TellsUpTo n o → Above n other → Follows o other
upto_follows n (Called m c r) (Called m' d s) u a = omega arith
upto_follows n (Called m c r) (Looked lo hi k q v) u a = (omega arith, omega arith)
upto_follows n (Called m c r) (Counted said ranges) u a = tt
upto_follows n (Looked lo hi k q v) (Called m c r) u a = omega arith
upto_follows n (Looked lo hi k q v) (Looked lo' hi' k' q' v') u a = (omega arith, omega arith, omega arith)
upto_follows n (Looked lo hi k q v) (Counted said ranges) u a = tt
upto_follows n (Counted said ranges) other u a = tt

behind_above : (p : Pass) (n : ℕ) (o : Outcome) → length p.seen ≡ n → p.ended ≡ n → Behind p o → Above n o
behind_above p n (Called number call reply) l e b = omega arith
behind_above p n (Looked lo hi k query value) l e b = (omega arith, omega arith)
behind_above p n (Counted said ranges) l e b = tt

known_upto : (p : Pass) (n : ℕ) (o : Outcome) → length p.seen ≡ n → p.ended ≡ n → p.begun ≤ n → Known p o → TellsUpTo n o
known_upto p n (Called number call reply) l e b k = omega arith
known_upto p n (Looked lo hi at query value) l e b k = (omega arith, omega arith, omega arith)
known_upto p n (Counted said ranges) l e b k = tt

-- what a phase keeps, between the first m and the first n calls
pub record Kept (number m n : ℕ) (steps : List Step) : Type 0 where
  pub grown : m ≤ n
  pub above : AllByRecursion (On number (λ (s : Step). Above m s.outcome)) steps
  pub upto : AllByRecursion (On number (λ (s : Step). TellsUpTo n s.outcome)) steps
  pub order : Pairs (OrderOn number) steps

pub phase_keeps : (passes number phase : ℕ) (steps : List Step) (b a : Tracked) → 0 < passes → length b.passes ≡ passes → IsSettled b.history b.passes → AllByRecursion (λ (s : Step). (s.phase ≡ phase) × (s.lane < passes)) steps → IsPhaseOn number steps b a
    → Kept number (length b.history.records) (length a.history.records) steps
phase_keeps passes number phase steps b a some count start placed ph =
    let m : ℕ = length b.history.records in
    let n : ℕ = length a.history.records in
    let within : AllByRecursion (λ (s : Step). s.lane < passes) steps = every _ _ steps (λ s b. b.1) placed in
    let lanes : (lane : ℕ) → lane < passes → Lane number steps b a lane = λ lane l. lane_in number steps b a lane start ph (omega (arith, count)) in
    record {
      grown = begins_long b.history.records a.history.records (phase_begins number steps b a (omega (arith, count)) start ph);
      above = each_on (λ (lane : ℕ). Above m) number passes steps within (λ lane l. let x = lanes lane l in every (Behind x.p) (Above m) (outcomes_of number lane steps) (λ o k. behind_above x.p m o (ap length x.had_seen) x.had_ended k) (leads_behind b.history x.p (outcomes_of number lane steps) x.q x.leads));
      upto = each_on (λ (lane : ℕ). TellsUpTo n) number passes steps within (λ lane l. let x = lanes lane l in every (Known x.q) (TellsUpTo n) (outcomes_of number lane steps) (λ o k. known_upto x.q n o (ap length x.seen) x.ended x.begun k) (leads_known b.history x.p (outcomes_of number lane steps) x.q x.leads));
      order = pairs_with (λ (s : Step). (s.phase ≡ phase) × (s.lane < passes)) (OneLane Follows number) (OrderOn number) (λ s t b c f here there knows. f here there (one_lane s t b.0 c.0 knows)) steps placed (pairs_on Follows number passes steps within (λ lane l. let x = lanes lane l in leads_follow b.history x.p (outcomes_of number lane steps) x.q x.leads));
    }
  where
    one_lane : (s t : Step) → s.phase ≡ phase → t.phase ≡ phase → Knows s t → s.lane ≡ t.lane
    one_lane s t e f (inl same) = same
    one_lane s t e f (inr earlier) = absurd (omega arith)

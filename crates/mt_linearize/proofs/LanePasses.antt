-- The pass of a lane before and after a phase.
use Rattle.mt_linearize.proofs.Prelude.{◌≡◌, ℕ, zero, suc, ◌<◌, ◌≤◌, List, [], ◌∷◌, Some, length, slice_get, arith, refl, subst, All, slice_get_within, get_or_from_slice_get, Record, Pass, Begins, IsSettled, Step, Leads, outcomes_of, Tracked, IsPhaseOn}
use Rattle.mt_linearize.proofs.Knowing.{Onward, leads_onward}

pub all_at : {X : Type 0} (P : X → Type 0) (xs : List X) (i : ℕ) (x : X) → All P xs → slice_get xs i ≡ Some x → P x
all_at P xs i x h is = subst P (get_or_from_slice_get xs i x x is) (h i x (slice_get_within xs i x is))

pub some_at : {X : Type 0} (xs : List X) (i : ℕ) → i < length xs → (x : X) × (slice_get xs i ≡ Some x)
some_at [] i l = absurd (omega arith)
some_at (x ∷ xs) zero l = (x, refl)
some_at (x ∷ xs) (suc i) l = some_at xs i (omega arith)

-- a lane's pass, before and after a phase on the tree of this number
pub record Lane (number : ℕ) (steps : List Step) (b a : Tracked) (lane : ℕ) : Type 0 where
  pub p : Pass
  pub q : Pass
  pub was : slice_get b.passes lane ≡ Some p
  pub is : slice_get a.passes lane ≡ Some q
  pub numbered : p.number ≡ lane
  pub leads : Leads b.history p (outcomes_of number lane steps) q
  pub had_seen : p.seen ≡ b.history.records
  pub had_ended : p.ended ≡ length b.history.records
  pub seen : q.seen ≡ a.history.records
  pub begun : q.begun ≤ length a.history.records
  pub ended : q.ended ≡ length a.history.records

pub lane_in : (number : ℕ) (steps : List Step) (b a : Tracked) (lane : ℕ) → IsSettled b.history b.passes → IsPhaseOn number steps b a → lane < length b.passes → Lane number steps b a lane
lane_in number steps b a lane start phase l =
    let before = some_at b.passes lane l in
    let after = some_at a.passes lane (omega (arith, phase.count)) in
    record {
      p = before.0;
      q = after.0;
      was = before.1;
      is = after.1;
      numbered = start.numbered lane before.0 before.1;
      leads = phase.lanes lane before.0 after.0 before.1 after.1;
      had_seen = all_at (λ (q : Pass). q.seen ≡ b.history.records) b.passes lane before.0 start.seen before.1;
      had_ended = all_at (λ (q : Pass). q.ended ≡ length b.history.records) b.passes lane before.0 start.ended before.1;
      seen = all_at (λ (q : Pass). q.seen ≡ a.history.records) a.passes lane after.0 phase.settled.seen after.1;
      begun = all_at (λ (q : Pass). q.begun ≤ length a.history.records) a.passes lane after.0 phase.settled.begun after.1;
      ended = all_at (λ (q : Pass). q.ended ≡ length a.history.records) a.passes lane after.0 phase.settled.ended after.1;
    }

-- the history goes on
pub phase_begins : (number : ℕ) (steps : List Step) (b a : Tracked) → 0 < length b.passes → IsSettled b.history b.passes → IsPhaseOn number steps b a → Begins b.history.records a.history.records
phase_begins number steps b a some start phase =
    let l : Lane number steps b a 0 = lane_in number steps b a 0 start phase some in
    let g : Onward l.p l.q = leads_onward b.history l.p (outcomes_of number 0 steps) l.q l.leads in
    subst (λ (z : List Record). Begins z a.history.records) l.had_seen (subst (λ (z : List Record). Begins l.p.seen z) l.seen g.seen)

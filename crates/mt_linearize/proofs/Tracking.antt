-- A tree goes on from phase to phase.
use Rattle.mt_linearize.proofs.Prelude.{◌≡◌, ℕ, ◌<◌, ◌≤◌, List, ◌++◌, length, arith, sym, subst, AllByRecursion, recursion_from_All, Record, History, Begins, with_records, all_join, Step, IsHeldRightly, calls_before, Tracked, IsPhaseOn, Counts, OrderOn, On, StandsInHistory, CountsAt, TellsUpTo, Tracks, IsPlaced, OwnReads}
use Rattle.mt_linearize.proofs.Counting.{old_count, new_count}
use Rattle.mt_linearize.proofs.Holding.{holds_more, phase_holds}
use Rattle.mt_linearize.proofs.LanePasses.{phase_begins}
use Rattle.mt_linearize.proofs.Lists.{every, both, pairs_append}
use Rattle.mt_linearize.proofs.Once.{numbers_on, numbers_long, phase_numbers}
use Rattle.mt_linearize.proofs.Phasing.{Kept, phase_keeps, upto_more, upto_follows}
use Rattle.mt_linearize.proofs.Readers.{OtherThan, phase_readers, phase_names, step_held, still_held}

-- steps of this phase, by lanes that have a pass
abbrev pub InPhase : ℕ → ℕ → Step → Type 0
InPhase passes phase s = (s.phase ≡ phase) × (s.lane < passes)

pub lanes_below : (passes phase : ℕ) (steps : List Step) → AllByRecursion (IsPlaced passes phase) steps → AllByRecursion (λ (s : Step). s.lane < passes) steps
lanes_below passes phase steps h = every (IsPlaced passes phase) (λ (s : Step). s.lane < passes) steps (λ s l. l.1) h

pub phase_tracks : (passes number phase : ℕ) (earlier steps : List Step) (b a : Tracked) → 0 < passes → AllByRecursion (IsPlaced passes phase) earlier → AllByRecursion (InPhase passes phase) steps → Tracks passes number earlier b → IsPhaseOn number steps b a → Tracks passes number (earlier ++ steps) a
phase_tracks passes number phase earlier steps b a some earlier_placed placed t ph =
    let old : History = b.history in
    let records : List Record = a.history.records in
    let new : History = with_records old records in
    let same : new ≡ a.history = sym ph.tree in
    let m : ℕ = length old.records in
    let n : ℕ = length records in
    let within : AllByRecursion (λ (s : Step). s.lane < passes) earlier = lanes_below passes phase earlier earlier_placed in
    let within' : AllByRecursion (λ (s : Step). s.lane < passes) steps = every (InPhase passes phase) (λ (s : Step). s.lane < passes) steps (λ s l. l.1) placed in
    let before_phase : AllByRecursion (λ (s : Step). s.phase < phase) earlier = every (IsPlaced passes phase) (λ (s : Step). s.phase < phase) earlier (λ s l. l.0) earlier_placed in
    let k : Kept number m n steps = phase_keeps passes number phase steps b a some t.count t.settled placed ph in
    let begins : Begins old.records records = phase_begins number steps b a (omega (arith, t.count)) t.settled ph in
    let readers : OwnReads number (earlier ++ steps) a.passes = phase_readers number earlier steps b a t.settled t.readers ph in
    let made : length (numbers_on number earlier) ≡ m = numbers_long passes number earlier b within t in
    let holds : AllByRecursion (On number (λ (s : Step). StandsInHistory a.history s.lane s.outcome)) steps = phase_holds passes number steps b a t.count t.settled within' ph in
    let upto_phase : AllByRecursion (λ (s : Step). s.phase ≤ phase) (earlier ++ steps) = all_join (λ (s : Step). s.phase ≤ phase) earlier steps (every (λ (s : Step). s.phase < phase) (λ (s : Step). s.phase ≤ phase) earlier (λ s l. omega arith) before_phase) (every (InPhase passes phase) (λ (s : Step). s.phase ≤ phase) steps (λ s l. omega (arith, l.0)) placed) in
    let names : AllByRecursion (On number (λ (s : Step). OtherThan s.lane s.outcome)) steps = phase_names passes number steps b a t.count t.settled within' ph in
    record {
      settled = ph.settled;
      count = omega (arith, ph.count, t.count);
      own = phase_numbers number earlier steps b a t.settled t.own ph;
      readers = readers;
      upto = all_join (On number (λ (s : Step). TellsUpTo n s.outcome)) earlier steps (every (On number (λ (s : Step). TellsUpTo m s.outcome)) (On number (λ (s : Step). TellsUpTo n s.outcome)) earlier (λ s u on. upto_more m n s.outcome k.grown (u on)) t.upto) k.upto;
      order = pairs_append (OrderOn number) earlier steps t.order k.order (every _ _ earlier (λ s u. every _ _ steps (λ r a here there knows. upto_follows m s.outcome r.outcome (u here) (a there)) k.above) t.upto);
      holds = all_join (On number (λ (s : Step). StandsInHistory a.history s.lane s.outcome)) earlier steps
          (every (On number (λ (s : Step). StandsInHistory old s.lane s.outcome)) (On number (λ (s : Step). StandsInHistory a.history s.lane s.outcome)) earlier (λ s h on. subst (λ (z : History). StandsInHistory z s.lane s.outcome) same (holds_more old old.records records s.lane s.outcome begins (h on))) t.holds)
          holds;
      counts = all_join (On number (λ (s : Step). CountsAt a.history (calls_before (earlier ++ steps) number s.phase) s.outcome)) earlier steps
          (every (λ (s : Step). (s.phase < phase) × (s.tree ≡ number → CountsAt old (calls_before earlier number s.phase) s.outcome)) (On number (λ (s : Step). CountsAt a.history (calls_before (earlier ++ steps) number s.phase) s.outcome)) earlier
          (λ s h on. subst (λ (z : History). CountsAt z (calls_before (earlier ++ steps) number s.phase) s.outcome) same (old_count number old records earlier steps s begins made (every (InPhase passes phase) (λ (r : Step). s.phase ≤ r.phase) steps (λ r l. omega (arith, l.0, h.0)) placed) (h.1 on)))
          (both _ _ earlier before_phase t.counts))
          (every (λ (s : Step). InPhase passes phase s × (s.tree ≡ number → Counts old s.outcome)) (On number (λ (s : Step). CountsAt a.history (calls_before (earlier ++ steps) number s.phase) s.outcome)) steps
          (λ s h on. subst (λ (z : History). CountsAt z (calls_before (earlier ++ steps) number s.phase) s.outcome) same (new_count number old records earlier steps s begins made (every (λ (r : Step). r.phase < phase) (λ (r : Step). r.phase < s.phase) earlier (λ r l. omega (arith, l, h.0.0)) before_phase) (every (InPhase passes phase) (λ (r : Step). s.phase ≤ r.phase) steps (λ r l. omega (arith, l.0, h.0.0)) placed) (h.1 on)))
          (both _ _ steps placed (recursion_from_All _ steps ph.counts)));
      holders = all_join (On number (IsHeldRightly (earlier ++ steps))) earlier steps
          (every (On number (IsHeldRightly earlier)) (On number (IsHeldRightly (earlier ++ steps))) earlier (λ s h on. still_held s earlier steps (h on)) t.holders)
          (every (λ (s : Step). InPhase passes phase s × ((s.tree ≡ number → OtherThan s.lane s.outcome) × (s.tree ≡ number → StandsInHistory a.history s.lane s.outcome))) (On number (IsHeldRightly (earlier ++ steps))) steps
          (λ s h on. step_held number s s.outcome (earlier ++ steps) a on (every (λ (r : Step). r.phase ≤ phase) (λ (r : Step). r.phase ≤ s.phase) (earlier ++ steps) (λ r l. omega (arith, l, h.0.0)) upto_phase) readers ph.settled (h.1.0 on) (h.1.1 on))
          (both _ _ steps placed (both _ _ steps names holds)));
    }

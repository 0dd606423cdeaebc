-- All trees go on from phase to phase, and are a run of the log when there are no more.
use Rattle.mt_linearize.proofs.Prelude.{◌≡◌, ℕ, ◌+◌, ◌<◌, ◌≤◌, List, [], ◌++◌, Some, length, map, get_or, slice_get, arith, refl, sym, ap, ◌∙◌, subst, All, AllByRecursion, length-map, All-from_recursion, recursion_from_All, slice_get_within, slice_get-get_or, slice_get-map, Record, History, IsLegal, map_at, Begins, with_records, all_join, Log, Transcript, Outcome, Called, Looked, Counted, Step, Opens, OpensAs, IsTrueOf, StandsIn, IsHeldRightly, IsRun, AreDone, calls_before, steps_of, entry_of, listings_of, Opening, Empty, CopyOf, Declared, trees_of, Tracked, IsPhase, IsPhaseOn, histories_of, TellsUpTo, OrderOn, StandsInHistory, CountsAt, Tracks, IsPlaced, HasBegun, Ran}
use Rattle.mt_base.specs.declared.kinds.Kind.TheVariants as kinds
use Rattle.mt_linearize.proofs.Counting.{before_within, before_kept, map_stays}
use Rattle.mt_linearize.proofs.LanePasses.{some_at, phase_begins}
use Rattle.mt_linearize.proofs.Lists.{same_some, every, pairs_all}
use Rattle.mt_linearize.proofs.Once.{numbers_long, calls_stand_once}
use Rattle.mt_linearize.proofs.Tracking.{InPhase, lanes_below, phase_tracks}

pub history_at : (trees : List Tracked) (tree : ℕ) (t : Tracked) → slice_get trees tree ≡ Some t → slice_get (histories_of trees) tree ≡ Some t.history
history_at trees tree t is = let e = slice_get-map (λ (t : Tracked). t.history) trees tree in rw is at e

-- the tree of a history
pub record Of (trees : List Tracked) (tree : ℕ) (h : History) : Type 0 where
  pub t : Tracked
  pub at : slice_get trees tree ≡ Some t
  pub is : h ≡ t.history

pub tracked_of : (trees : List Tracked) (tree : ℕ) (h : History) → slice_get (histories_of trees) tree ≡ Some h → Of trees tree h
tracked_of trees tree h is =
    let f = some_at trees tree (omega (arith, slice_get_within (histories_of trees) tree h is, length-map trees (λ (t : Tracked). t.history))) in
    record { t = f.0; at = f.1; is = same_some h f.0.history (sym is ∙ history_at trees tree f.0 f.1) }

-- the tree before a phase, of a tree after it
record Before (passes phase : ℕ) (steps : List Step) (before : List Tracked) (tree : ℕ) (a : Tracked) : Type 0 where
  b : Tracked
  was : slice_get before tree ≡ Some b
  phase_on : IsPhaseOn tree steps b a

before_phase : (passes phase : ℕ) (steps : List Step) (before after : List Tracked) (tree : ℕ) (a : Tracked) → IsPhase passes phase steps before after → slice_get after tree ≡ Some a → Before passes phase steps before tree a
before_phase passes phase steps before after tree a e is =
    let f = some_at before tree (omega (arith, slice_get_within after tree a is, e.count)) in
    record { b = f.0; was = f.1; phase_on = e.each tree f.0 a f.1 is }

opens_still : (passes rows phase : ℕ) (declared : List Declared) (earlier steps : List Step) (before after : List Tracked) (o : Opening) (h : History) (records : List Record) → 0 < passes → Ran passes rows phase declared earlier before → IsPhase passes phase steps before after → HasBegun phase o
    → OpensAs earlier (histories_of before) o h → OpensAs (earlier ++ steps) (histories_of after) o (with_records h records)
opens_still passes rows phase declared earlier steps before after Empty h records some r e begun opens = opens
opens_still passes rows phase declared earlier steps before after (CopyOf tree q) h records some r e begun opens =
    let f : Of before tree opens.0 = tracked_of before tree opens.0 opens.1 in
    let b : Tracked = f.t in
    let g = some_at after tree (omega (arith, slice_get_within before tree b f.at, e.count)) in
    let a : Tracked = g.0 in
    let ph : IsPhaseOn tree steps b a = e.each tree b a f.at g.1 in
    let t : Tracks passes tree earlier b = r.tracks tree b f.at in
    let begins : Begins b.history.records a.history.records = phase_begins tree steps b a (omega (arith, t.count)) t.settled ph in
    let placed : AllByRecursion (InPhase passes phase) steps = recursion_from_All (InPhase passes phase) steps e.placed in
    let kept : calls_before (earlier ++ steps) tree q ≡ calls_before earlier tree q = before_kept tree earlier steps q (every (InPhase passes phase) (λ (s : Step). q ≤ s.phase) steps (λ s l. omega (arith, l.0, begun)) placed) in
    let least : calls_before earlier tree q ≤ length b.history.records = omega (arith, before_within earlier tree q, numbers_long passes tree earlier b (lanes_below passes phase earlier r.placed) t) in
    let stays : map_at a.history (calls_before earlier tree q) ≡ map_at b.history (calls_before earlier tree q) = ap (λ (z : History). map_at z (calls_before earlier tree q)) ph.tree ∙ map_stays b.history a.history.records (calls_before earlier tree q) begins least in
    let now : map_at opens.0 (calls_before earlier tree q) ≡ map_at a.history (calls_before (earlier ++ steps) tree q) = ap (λ (z : History). map_at z (calls_before earlier tree q)) f.is ∙ (sym stays ∙ ap (λ (k : ℕ). map_at a.history k) (sym kept)) in
    let kind : opens.0.kind ≡ a.history.kind = ap (λ (z : History). z.kind) f.is ∙ sym (ap (λ (z : History). z.kind) ph.tree) in (
      a.history,
      history_at after tree a g.1,
      opens.2 ∙ kind,
      opens.3 ∙ now,
    )

begun_more : (phase : ℕ) (o : Opening) → HasBegun phase o → HasBegun (phase + 1) o
begun_more phase Empty h = tt
begun_more phase (CopyOf tree q) h = omega arith

pub phase_ran : (passes rows phase : ℕ) (declared : List Declared) (earlier steps : List Step) (before after : List Tracked) → 0 < passes → Ran passes rows phase declared earlier before → IsPhase passes phase steps before after → Ran passes rows (phase + 1) declared (earlier ++ steps) after
phase_ran passes rows phase declared earlier steps before after some r e =
    let placed : AllByRecursion (InPhase passes phase) steps = recursion_from_All (InPhase passes phase) steps e.placed in
    let named : AllByRecursion (λ (s : Step). s.tree < length before) steps = recursion_from_All (λ (s : Step). s.tree < length before) steps e.named in
    record {
      count = e.count ∙ r.count;
      placed = all_join (IsPlaced passes (phase + 1)) earlier steps
          (every (IsPlaced passes phase) (IsPlaced passes (phase + 1)) earlier (λ s l. (omega (arith, l.0), l.1)) r.placed)
          (every (InPhase passes phase) (IsPlaced passes (phase + 1)) steps (λ s l. (omega (arith, l.0), l.1)) placed);
      named = all_join (λ (s : Step). s.tree < length after) earlier steps
          (every (λ (s : Step). s.tree < length before) (λ (s : Step). s.tree < length after) earlier (λ s l. omega (arith, e.count)) r.named)
          (every (λ (s : Step). s.tree < length before) (λ (s : Step). s.tree < length after) steps (λ s l. omega (arith, e.count)) named);
      tracks = λ tree a is.
          let x : Before passes phase steps before tree a = before_phase passes phase steps before after tree a e is in
          phase_tracks passes tree phase earlier steps x.b a some r.placed placed (r.tracks tree x.b x.was) x.phase_on;
      sized = λ tree a is.
          let x : Before passes phase steps before tree a = before_phase passes phase steps before after tree a e is in
          ap (λ (z : History). z.rows) x.phase_on.tree ∙ r.sized tree x.b x.was;
      opened = λ tree d a said is.
          let x : Before passes phase steps before tree a = before_phase passes phase steps before after tree a e is in
          let o : Opens earlier (histories_of before) d x.b.history = r.opened tree d x.b said x.was in
          subst (λ (z : History). Opens (earlier ++ steps) (histories_of after) d z) (sym x.phase_on.tree) (record {
            kind = o.kind;
            opening = opens_still passes rows phase declared earlier steps before after d.opening x.b.history a.history.records some r e (r.copied tree d said) o.opening;
          });
      copied = λ tree d said. begun_more phase d.opening (r.copied tree d said);
    }

-- ---- a run of the log

-- what a step owes to the trees
step_stands : (steps : List Step) (trees : List History) (s : Step) → (h : History) → slice_get trees s.tree ≡ Some h → StandsInHistory h s.lane s.outcome → TellsUpTo (length h.records) s.outcome → CountsAt h (calls_before steps s.tree s.phase) s.outcome → StandsIn steps trees s
step_stands steps trees s h is holds upto counts = (h, is, stands s.outcome holds upto counts)
  where
    stands : (o : Outcome) → StandsInHistory h s.lane o → TellsUpTo (length h.records) o → CountsAt h (calls_before steps s.tree s.phase) o → IsTrueOf h (calls_before steps s.tree s.phase) o
    stands (Called number call reply) a b c = tt
    stands (Looked lo hi k query value) a b c = (a, b.1)
    stands (Counted said ranges) a b c = c

-- a fact of each step on a tree, at one step
at_step : (P : ℕ → Step → Type 0) (steps : List Step) (k : ℕ) (d : Step) → k < length steps → AllByRecursion (λ (s : Step). s.tree ≡ (get_or steps k d).tree → P (get_or steps k d).tree s) steps → P (get_or steps k d).tree (get_or steps k d)
at_step P steps k d l h = All-from_recursion (λ (s : Step). s.tree ≡ (get_or steps k d).tree → P (get_or steps k d).tree s) steps h k d l refl

pub ran_is_run : (passes rows phase : ℕ) (log : Log) (t : Transcript) (steps : List Step) (trees : List Tracked) → Ran passes rows phase (trees_of log.lines) steps trees → AreDone (steps_of log.lines) steps → t.version ≡ log.version → t.entries ≡ map entry_of steps → t.lists ≡ listings_of (trees_of log.lines) (histories_of trees) → IsRun log rows t
ran_is_run passes rows phase log t steps trees r asked version told lists =
    let within : AllByRecursion (λ (s : Step). s.lane < passes) steps = lanes_below passes phase steps r.placed in
    let named : All (λ (s : Step). s.tree < length trees) steps = All-from_recursion (λ (s : Step). s.tree < length trees) steps r.named in
    let long : length (histories_of trees) ≡ length trees = length-map trees (λ (t : Tracked). t.history) in
    let nothing : History = record { kind = kinds.Range; rows = 0; opening = []; records = [] } in (
      steps,
      histories_of trees,
      record {
        version = version;
        asked = asked;
        told = told;
        count = long ∙ r.count;
        opened = λ tree d h said is.
            let f : Of trees tree h = tracked_of trees tree h is in
            subst (λ (z : History). Opens steps (histories_of trees) d z) (sym f.is) (r.opened tree d f.t said f.at);
        sized = λ k d l.
            let f : Of trees k (get_or (histories_of trees) k d) = tracked_of trees k (get_or (histories_of trees) k d) (slice_get-get_or (histories_of trees) k d l) in
            ap (λ (z : History). z.rows) f.is ∙ r.sized k f.t f.at;
        once = λ tree h is.
            let f : Of trees tree h = tracked_of trees tree h is in
            rw f.is (calls_stand_once passes tree steps f.t within (r.tracks tree f.t f.at));
        legal = λ k d l.
            let f : Of trees k (get_or (histories_of trees) k d) = tracked_of trees k (get_or (histories_of trees) k d) (slice_get-get_or (histories_of trees) k d l) in
            subst IsLegal (sym f.is) (r.tracks k f.t f.at).settled.legal;
        order = λ i j d less l same knows.
            let tree : ℕ = (get_or steps i d).tree in
            let f = some_at trees tree (named i d (omega arith)) in
            let k : Tracks passes tree steps f.0 = r.tracks tree f.0 f.1 in
            pairs_all (OrderOn tree) steps k.order i j d less l refl (sym same) knows;
        reads = λ i d l.
            let tree : ℕ = (get_or steps i d).tree in
            let f = some_at trees tree (named i d l) in
            let k : Tracks passes tree steps f.0 = r.tracks tree f.0 f.1 in
            step_stands steps (histories_of trees) (get_or steps i d) f.0.history (history_at trees tree f.0 f.1)
            (at_step (λ tree s. StandsInHistory f.0.history s.lane s.outcome) steps i d l k.holds)
            (at_step (λ tree s. TellsUpTo (length f.0.history.records) s.outcome) steps i d l k.upto)
            (at_step (λ tree s. CountsAt f.0.history (calls_before steps tree s.phase) s.outcome) steps i d l k.counts);
        holders = λ i d l.
            let tree : ℕ = (get_or steps i d).tree in
            let f = some_at trees tree (named i d l) in
            let k : Tracks passes tree steps f.0 = r.tracks tree f.0 f.1 in
            at_step (λ tree s. IsHeldRightly steps s) steps i d l k.holders;
        lists = lists;
      },
    )

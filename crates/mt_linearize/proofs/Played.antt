-- What one thread has played so far goes on, and is a run of the log in the end.
use Rattle.mt_linearize.proofs.Prelude.{◌≡◌, ◌⊎◌, ℕ, ◌+◌, ◌<◌, Bool, true, false, List, [], ◌∷◌, ◌++◌, Some, length, map, slice_get, arith, refl, sym, ap, ◌∙◌, subst, append_assoc, inl, inr, length-append, slice_set, AllByRecursion, append-nil, length-map, length-set, map-append, All-from_recursion, recursion_from_All, slice_get_within, Kind, Range, Call, Query, Reply, answer, History, last_map, IsSettled, Log, Said, Transcript, KnownTree, Outcome, Called, Looked, Counted, Step, AreDone, IsRun, entry_of, listings_of, steps_of, Declared, Empty, CopyOf, trees_of, Leads, HasPlayed, IsNext, known_to_all, step_of_line, with_call, Tracked, IsPhase, IsPhaseOn, histories_of, new_history, new_tracked, Ran}
use Rattle.mt_linearize.proofs.Informed.{informed_are_settled}
use Rattle.mt_linearize.proofs.LanePasses.{some_at}
use Rattle.mt_linearize.proofs.Leading.{learns_none}
use Rattle.mt_log.proofs.PlacesSet.{set_here, set_there}
use Rattle.mt_linearize.proofs.Lists.{same_some}
use Rattle.mt_linearize.proofs.Playing.{KnownAt, Replaced, call_makes, count_makes, known_at, known_of, one_step, read_makes}
use Rattle.mt_linearize.proofs.Running.{phase_ran, ran_is_run}
use Rattle.mt_linearize.proofs.Starting.{copy_ran, empty_ran, idle, nothing_ran, pushed}

replaced : (trees : List History) (tree : ℕ) (h h' : History) → slice_get trees tree ≡ Some h → Replaced trees (slice_set trees tree h') tree h h'
replaced trees tree h h' is = record {
  count = length-set trees tree h';
  was = is;
  is = set_here trees tree h h' is;
  rest = λ other apart. set_there trees tree other h' apart;
}

unreplaced : (trees : List History) (tree : ℕ) (h : History) → slice_get trees tree ≡ Some h → Replaced trees trees tree h h
unreplaced trees tree h is = record { count = refl; was = is; is = is; rest = λ other apart. refl }

pub histories_known : (passes : ℕ) (trees : List History) → histories_of (map (known_to_all passes) trees) ≡ trees
histories_known passes [] = refl
histories_known passes (h ∷ trees) = ap (λ z. h ∷ z) (histories_known passes trees)

-- ---- trees at rest

-- no step of this phase is on the tree
quiet : (passes tree : ℕ) (now : List Step) (h : History) → AllByRecursion (λ (s : Step). s.tree < tree) now → IsSettled h (known_to_all passes h).passes → IsPhaseOn tree now (known_to_all passes h) (known_to_all passes h)
quiet passes tree now h below settled = record {
  tree = refl;
  count = refl;
  lanes = λ lane p q was is. let same : p ≡ q = same_some p q (sym was ∙ is) in subst (λ (z : List Outcome). Leads h p z q) (sym (idle tree lane now below)) (rw same (learns_none q));
  counts = λ k d l on. absurd (omega (arith, on, All-from_recursion (λ (s : Step). s.tree < tree) now below k d l));
  settled = settled;
}

-- each tree's passes are settled
pub settled_at : (passes phase : ℕ) (now : List Step) (opening trees : List History) (tree : ℕ) (h : History) → IsPhase passes phase now (map (known_to_all passes) opening) (map (known_to_all passes) trees) → slice_get trees tree ≡ Some h → IsSettled h (known_to_all passes h).passes
settled_at passes phase now opening trees tree h ph is =
    let all : List Tracked = map (known_to_all passes) opening in
    let f = some_at all tree (omega (arith, slice_get_within trees tree h is, ph.count, length-map trees (known_to_all passes))) in
    (ph.each tree f.0 (known_to_all passes h) f.1 (known_at passes trees tree h is)).settled

both_known : (tree : ℕ) (now : List Step) (b a t : Tracked) → b ≡ t → a ≡ t → IsPhaseOn tree now t t → IsPhaseOn tree now b a
both_known tree now b a t e f ph = rw (e, f) ph

-- a phase of no steps yet
resting : (passes phase : ℕ) (trees : List History) → ((tree : ℕ) (h : History) → slice_get trees tree ≡ Some h → IsSettled h (known_to_all passes h).passes) → IsPhase passes phase [] (map (known_to_all passes) trees) (map (known_to_all passes) trees)
resting passes phase trees settled = record {
  count = refl;
  placed = λ k d l. absurd (omega arith);
  named = λ k d l. absurd (omega arith);
  each = λ tree b a was is.
      let f : KnownAt passes trees tree b = known_of passes trees tree b was in
      let same : a ≡ known_to_all passes f.h = same_some a (known_to_all passes f.h) (sym is ∙ known_at passes trees tree f.h f.at) in
      both_known tree [] b a (known_to_all passes f.h) f.is same (quiet passes tree [] f.h tt (settled tree f.h f.at));
}

-- ---- one more tree

new_known : (passes rows : ℕ) (kind : Kind) (opening : List Range) (trees : List History) → map (known_to_all passes) trees ++ new_tracked passes rows kind opening ∷ [] ≡ map (known_to_all passes) (trees ++ new_history kind rows opening ∷ [])
new_known passes rows kind opening trees = sym (map-append (known_to_all passes) trees (new_history kind rows opening ∷ []))

new_settled : (passes rows : ℕ) (kind : Kind) (opening : List Range) → IsSettled (new_history kind rows opening) (known_to_all passes (new_history kind rows opening)).passes
new_settled passes rows kind opening = informed_are_settled passes (new_history kind rows opening) (λ k d l. absurd (omega arith)) (λ k d l. absurd (omega arith)) tt

one_tree : (passes phase : ℕ) (now : List Step) (opening trees : List History) (h : History) → IsSettled h (known_to_all passes h).passes → IsPhase passes phase now (map (known_to_all passes) opening) (map (known_to_all passes) trees)
    → IsPhase passes phase now (map (known_to_all passes) (opening ++ h ∷ [])) (map (known_to_all passes) (trees ++ h ∷ []))
one_tree passes phase now opening trees h settled ph =
    let f : History → Tracked = known_to_all passes in
    let long : length (map f opening) ≡ length opening = length-map opening f in
    let long' : length (map f trees) ≡ length trees = length-map trees f in
    let longer : length (map f (opening ++ h ∷ [])) ≡ length opening + 1 = omega (arith, length-map (opening ++ h ∷ []) f, length-append opening (h ∷ [])) in
    let longer' : length (map f (trees ++ h ∷ [])) ≡ length trees + 1 = omega (arith, length-map (trees ++ h ∷ []) f, length-append trees (h ∷ [])) in
    record {
      count = omega (arith, longer, longer', ph.count, long, long');
      placed = ph.placed;
      named = λ k d l. omega (arith, ph.named k d l, longer, long);
      each = λ tree b a was is.
          let x : KnownAt passes (opening ++ h ∷ []) tree b = known_of passes (opening ++ h ∷ []) tree b was in
          let y : KnownAt passes (trees ++ h ∷ []) tree a = known_of passes (trees ++ h ∷ []) tree a is in
          rw (x.is, y.is) (each_on tree x.h y.h (pushed opening h tree x.h x.at) (pushed trees h tree y.h y.at));
    }
  where
    below : AllByRecursion (λ (s : Step). s.tree < length opening) now
    below = recursion_from_All (λ (s : Step). s.tree < length opening) now (λ k d l. omega (arith, ph.named k d l, length-map opening (known_to_all passes)))

    count : length trees ≡ length opening
    count = omega (arith, ph.count, length-map opening (known_to_all passes), length-map trees (known_to_all passes))

    each_on : (tree : ℕ) (b a : History) → (((tree < length opening) × (slice_get opening tree ≡ Some b)) ⊎ ((tree ≡ length opening) × (b ≡ h))) → (((tree < length trees) × (slice_get trees tree ≡ Some a)) ⊎ ((tree ≡ length trees) × (a ≡ h))) → IsPhaseOn tree now (known_to_all passes b) (known_to_all passes a)
    each_on tree b a (inl old) (inl old') = ph.each tree (known_to_all passes b) (known_to_all passes a) (known_at passes opening tree b old.1) (known_at passes trees tree a old'.1)
    each_on tree b a (inr new) (inr new') = rw (new.1, new'.1, new.0) (quiet passes (length opening) now h below settled)
    each_on tree b a (inl old) (inr new) = absurd (omega (arith, old.0, new.0, count))
    each_on tree b a (inr new) (inl old) = absurd (omega (arith, new.0, old.0, count))

one_more : (passes rows phase : ℕ) (stepped : Bool) (declared : List Declared) (steps : List Step) (trees : List History) (d : Declared) (h : History) → (p : HasPlayed passes rows phase stepped declared steps trees)
    → Ran passes rows phase (declared ++ d ∷ []) p.earlier (map (known_to_all passes) (p.opening ++ h ∷ [])) → IsSettled h (known_to_all passes h).passes → HasPlayed passes rows phase stepped (declared ++ d ∷ []) steps (trees ++ h ∷ [])
one_more passes rows phase stepped declared steps trees d h p ran settled = record {
  some = p.some;
  opening = p.opening ++ h ∷ [];
  earlier = p.earlier;
  now = p.now;
  all = p.all;
  ran = ran;
  going = one_tree passes phase p.now p.opening trees h settled p.going;
  still = λ none. ap (λ z. z ++ h ∷ []) (p.still none);
}

pub tree_played : (passes rows phase : ℕ) (stepped : Bool) (declared : List Declared) (steps : List Step) (trees : List History) (known : KnownTree) → HasPlayed passes rows phase stepped declared steps trees
    → HasPlayed passes rows phase stepped (declared ++ record { tree = known; opening = Empty } ∷ []) steps (trees ++ new_history known.kind rows [] ∷ [])
tree_played passes rows phase stepped declared steps trees known p =
    let d : Declared = record { tree = known; opening = Empty } in
    one_more passes rows phase stepped declared steps trees d (new_history known.kind rows []) p
    (subst (λ (z : List Tracked). Ran passes rows phase (declared ++ d ∷ []) p.earlier z) (new_known passes rows known.kind [] p.opening) (empty_ran passes rows phase declared p.earlier (map (known_to_all passes) p.opening) known p.ran))
    (new_settled passes rows known.kind [])

pub copy_played : (passes rows phase : ℕ) (declared : List Declared) (steps : List Step) (trees : List History) (known : KnownTree) (tree : ℕ) (source : History) → HasPlayed passes rows phase false declared steps trees → slice_get trees tree ≡ Some source → known.kind ≡ source.kind
    → HasPlayed passes rows phase false (declared ++ record { tree = known; opening = CopyOf tree phase } ∷ []) steps (trees ++ new_history known.kind rows (last_map source) ∷ [])
copy_played passes rows phase declared steps trees known tree source p is kind =
    let d : Declared = record { tree = known; opening = CopyOf tree phase } in
    let was : slice_get p.opening tree ≡ Some source = ap (λ (z : List History). slice_get z tree) (sym (p.still refl)) ∙ is in
    one_more passes rows phase false declared steps trees d (new_history known.kind rows (last_map source)) p
    (subst (λ (z : List Tracked). Ran passes rows phase (declared ++ d ∷ []) p.earlier z) (new_known passes rows known.kind (last_map source) p.opening)
    (copy_ran passes rows phase declared p.earlier (map (known_to_all passes) p.opening) known tree (known_to_all passes source) (known_at passes p.opening tree source was) kind p.ran))
    (new_settled passes rows known.kind (last_map source))

-- ---- one more step

step_played : (passes rows phase : ℕ) (was stepped : Bool) (declared : List Declared) (steps : List Step) (old trees : List History) (s : Step) → (p : HasPlayed passes rows phase was declared steps old)
    → IsPhase passes phase (p.now ++ s ∷ []) (map (known_to_all passes) p.opening) (map (known_to_all passes) trees) → (stepped ≡ false → trees ≡ p.opening) → HasPlayed passes rows phase stepped declared (steps ++ s ∷ []) trees
step_played passes rows phase was stepped declared steps old trees s p going still = record {
  some = p.some;
  opening = p.opening;
  earlier = p.earlier;
  now = p.now ++ s ∷ [];
  all = ap (λ z. z ++ s ∷ []) p.all ∙ append_assoc p.earlier p.now (s ∷ []);
  ran = p.ran;
  going = going;
  still = still;
}

pub call_played : (passes rows phase : ℕ) (stepped : Bool) (declared : List Declared) (steps : List Step) (trees : List History) (lane line tree : ℕ) (h : History) (call : Call) (reply : Reply) (after : List Range) → HasPlayed passes rows phase stepped declared steps trees → slice_get trees tree ≡ Some h → lane < passes
    → IsNext h (record { pass = lane; call = call; reply = reply }) after
    → HasPlayed passes rows phase true declared (steps ++ step_of_line phase lane line tree (Called (length h.records + 1) call reply) ∷ []) (slice_set trees tree (with_call h (record { pass = lane; call = call; reply = reply })))
call_played passes rows phase stepped declared steps trees lane line tree h call reply after p is among next =
    let s : Step = step_of_line phase lane line tree (Called (length h.records + 1) call reply) in
    let h' : History = with_call h (record { pass = lane; call = call; reply = reply }) in
    step_played passes rows phase stepped true declared steps trees (slice_set trees tree h') s p
    (one_step passes phase p.now p.opening trees (slice_set trees tree h') s h h' refl (replaced trees tree h h' is) (call_makes passes phase lane line tree p.opening h call reply after among (settled_at passes phase p.now p.opening trees tree h p.going is) next) p.going)
    (λ none. cc)

pub read_played : (passes rows phase : ℕ) (stepped : Bool) (declared : List Declared) (steps : List Step) (trees : List History) (lane line tree : ℕ) (h : History) (query : Query) → HasPlayed passes rows phase stepped declared steps trees → slice_get trees tree ≡ Some h → lane < passes
    → HasPlayed passes rows phase true declared (steps ++ step_of_line phase lane line tree (Looked (length h.records) (length h.records) (length h.records) query (answer (last_map h) query)) ∷ []) trees
read_played passes rows phase stepped declared steps trees lane line tree h query p is among =
    let s : Step = step_of_line phase lane line tree (Looked (length h.records) (length h.records) (length h.records) query (answer (last_map h) query)) in
    step_played passes rows phase stepped true declared steps trees trees s p
    (one_step passes phase p.now p.opening trees trees s h h refl (unreplaced trees tree h is) (read_makes passes phase lane line tree p.opening h query among (settled_at passes phase p.now p.opening trees tree h p.going is)) p.going)
    (λ none. cc)

pub count_played : (passes rows phase : ℕ) (declared : List Declared) (steps : List Step) (trees : List History) (line tree : ℕ) (h : History) (said : ℕ → Said) → HasPlayed passes rows phase false declared steps trees → slice_get trees tree ≡ Some h
    → HasPlayed passes rows phase false declared (steps ++ step_of_line phase 0 line tree (Counted said (last_map h)) ∷ []) trees
count_played passes rows phase declared steps trees line tree h said p is =
    let s : Step = step_of_line phase 0 line tree (Counted said (last_map h)) in
    let as_opened : (old : History) → slice_get p.opening tree ≡ Some old → old ≡ h = λ old was. same_some old h (sym was ∙ (ap (λ (z : List History). slice_get z tree) (sym (p.still refl)) ∙ is)) in
    step_played passes rows phase false false declared steps trees trees s p
    (one_step passes phase p.now p.opening trees trees s h h refl (unreplaced trees tree h is) (count_makes passes phase 0 line tree p.opening h said p.some (settled_at passes phase p.now p.opening trees tree h p.going is) as_opened) p.going)
    p.still

-- ---- phases

pub nothing_played : (passes rows : ℕ) → 0 < passes → HasPlayed passes rows 0 false [] [] []
nothing_played passes rows some = record {
  some = some;
  opening = [];
  earlier = [];
  now = [];
  all = refl;
  ran = nothing_ran passes rows;
  going = resting passes 0 [] (λ tree h is. cc);
  still = λ none. refl;
}

phase_over : (passes rows phase : ℕ) (stepped : Bool) (declared : List Declared) (steps : List Step) (trees : List History) → HasPlayed passes rows phase stepped declared steps trees → Ran passes rows (phase + 1) declared steps (map (known_to_all passes) trees)
phase_over passes rows phase stepped declared steps trees p = rw p.all (phase_ran passes rows phase declared p.earlier p.now (map (known_to_all passes) p.opening) (map (known_to_all passes) trees) p.some p.ran p.going)

pub phase_played : (passes rows phase : ℕ) (stepped : Bool) (declared : List Declared) (steps : List Step) (trees : List History) → HasPlayed passes rows phase stepped declared steps trees → HasPlayed passes rows (phase + 1) false declared steps trees
phase_played passes rows phase stepped declared steps trees p = record {
  some = p.some;
  opening = trees;
  earlier = steps;
  now = [];
  all = sym (append-nil steps);
  ran = phase_over passes rows phase stepped declared steps trees p;
  going = resting passes (phase + 1) trees (λ tree h is. settled_at passes phase p.now p.opening trees tree h p.going is);
  still = λ none. refl;
}

pub played_is_run : (passes rows phase : ℕ) (stepped : Bool) (log : Log) (t : Transcript) (steps : List Step) (trees : List History) → HasPlayed passes rows phase stepped (trees_of log.lines) steps trees → AreDone (steps_of log.lines) steps → t.version ≡ log.version → t.entries ≡ map entry_of steps → t.lists ≡ listings_of (trees_of log.lines) trees → IsRun log rows t
played_is_run passes rows phase stepped log t steps trees p asked version told lists =
    ran_is_run passes rows (phase + 1) log t steps (map (known_to_all passes) trees) (phase_over passes rows phase stepped (trees_of log.lines) steps trees p) asked version told (lists ∙ ap (listings_of (trees_of log.lines)) (sym (histories_known passes trees)))

-- ---- the trees are those that were declared

pub as_declared : (passes rows phase : ℕ) (stepped : Bool) (declared : List Declared) (steps : List Step) (trees : List History) (tree : ℕ) (d : Declared) (h : History) → HasPlayed passes rows phase stepped declared steps trees → slice_get declared tree ≡ Some d → slice_get trees tree ≡ Some h → h.kind ≡ d.tree.kind
as_declared passes rows phase stepped declared steps trees tree d h p said is = ((phase_over passes rows phase stepped declared steps trees p).opened tree d (known_to_all passes h) said (known_at passes trees tree h is)).kind

pub as_many : (passes rows phase : ℕ) (stepped : Bool) (declared : List Declared) (steps : List Step) (trees : List History) → HasPlayed passes rows phase stepped declared steps trees → length trees ≡ length declared
as_many passes rows phase stepped declared steps trees p = omega (arith, (phase_over passes rows phase stepped declared steps trees p).count, length-map trees (known_to_all passes))

pub as_large : (passes rows phase : ℕ) (stepped : Bool) (declared : List Declared) (steps : List Step) (trees : List History) (tree : ℕ) (h : History) → HasPlayed passes rows phase stepped declared steps trees → slice_get trees tree ≡ Some h → h.rows ≡ rows
as_large passes rows phase stepped declared steps trees tree h p is = (phase_over passes rows phase stepped declared steps trees p).sized tree (known_to_all passes h) (known_at passes trees tree h is)

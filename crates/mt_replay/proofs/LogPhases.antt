-- The phases of a log, one behind another.
use Rattle.mt_replay.proofs.Prelude.{◌≡◌, ℕ, zero, suc, ◌+◌, ◌-◌, ◌<◌, ◌≤◌, Bool, true, false, List, [], ◌∷◌, ◌++◌, Some, length, map, take, drop, get_or, slice_get, slice_range, arith, refl, sym, ap, ◌∙◌, subst, append_assoc, length-append, false≢true, append-nil, take-append-drop, slice_get_within, get_or_from_slice_get, Item, Join, Line, AreInPlaceFrom, stepped_from, Log, Transcript, Step, AreDone, IsRun, listings_of, steps_of, IsReadable, trees_from, trees_of, lane_behind, phase_behind, Ran, histories_of, some_at, ran_is_run, asked_more, lane_more, phase_append, phase_more, stepped_more, stretch_apart, trees_behind, trees_more, IsOnePhase, is_join, lanes_in, same_phase, few_lanes, lanes_before, lanes_behind, some_lane, own_lines, phase_named, phase_placed, CanDo, IsPhaseBehind, NoJoinBetween, IsBegun, IsPlayed, PlayerState, most_calls, most_lanes}

-- A phase of this number begins at this place of a log.
pub record BeginsAt (log : List Line) (from phase : ℕ) : Type 0 where
  pub within : from ≤ length log
  pub low : phase ≤ from
  pub lane_is : lane_behind 0 (take from log) ≡ 0
  pub phase_is : phase_behind 0 (take from log) ≡ phase
  pub fresh : stepped_from false (take from log) ≡ false

-- ---- a log cut into what is in front of a phase, the phase, and the rest

pub front_and_phase : {X : Type 0} (log : List X) (from to : ℕ) → from ≤ to → to ≤ length log → take from log ++ slice_range log from to ≡ take to log
front_and_phase [] from to low high = let first : from ≡ 0 = omega (arith, low, high) in let last : to ≡ 0 = omega (arith, high) in rw (first, last) refl
front_and_phase (x ∷ log) zero to low high = ap (λ (n : ℕ). take n (x ∷ log)) (omega arith)
front_and_phase (x ∷ log) (suc from) zero low high = absurd (omega (arith, low))
front_and_phase (x ∷ log) (suc from) (suc to) low high = ap (λ z. x ∷ z) (ap (λ (n : ℕ). take from log ++ take n (drop from log)) (omega arith) ∙ front_and_phase log from to (omega (arith, low)) (omega (arith, high)))

cut_at : (log : List Line) (from to : ℕ) → from ≤ to → to ≤ length log → log ≡ take from log ++ (slice_range log from to ++ drop to log)
cut_at log from to low high = sym (take-append-drop to log) ∙ (ap (λ z. z ++ drop to log) (sym (front_and_phase log from to low high)) ∙ append_assoc (take from log) (slice_range log from to) (drop to log))

slice_at : (log : List Line) (from to i : ℕ) (d : Line) → to ≤ length log → i < length (slice_range log from to) → (get_or (slice_range log from to) i d ≡ get_or log (from + i) d) × (from + i < to)
slice_at log from to i d high within = (taken (drop from log) (to - from) i d below ∙ dropped log from i d, omega (arith, below))
  where
    long : (xs : List Line) (n : ℕ) → length (take n xs) ≤ n
    long [] zero = omega arith
    long [] (suc n) = omega arith
    long (x ∷ xs) zero = omega arith
    long (x ∷ xs) (suc n) = omega (arith, long xs n)

    below : i < to - from
    below = omega (arith, within, long (drop from log) (to - from))

    taken : (xs : List Line) (n i : ℕ) (d : Line) → i < n → get_or (take n xs) i d ≡ get_or xs i d
    taken xs zero i d l = absurd (omega (arith, l))
    taken [] (suc n) i d l = refl
    taken (x ∷ xs) (suc n) zero d l = refl
    taken (x ∷ xs) (suc n) (suc i) d l = taken xs n i d (omega (arith, l))

    dropped : (xs : List Line) (n i : ℕ) (d : Line) → get_or (drop n xs) i d ≡ get_or xs (n + i) d
    dropped xs zero i d = ap (λ (k : ℕ). get_or xs k d) (omega arith)
    dropped [] (suc n) i d = refl
    dropped (x ∷ xs) (suc n) i d = let e : suc (n + i) ≡ suc n + i = omega arith in dropped xs n i d ∙ ap (λ (k : ℕ). get_or (x ∷ xs) k d) e

pub no_joins : (log : List Line) (from to : ℕ) → to ≤ length log → NoJoinBetween log from to → IsOnePhase (slice_range log from to)
no_joins log from to high none = λ i d within. let (is, below) = slice_at log from to i d high within in rw is (none (from + i) d (omega arith) below)

-- ---- a phase of a readable log

pub phase_ready : (log : List Line) (lanes from to phase : ℕ) → IsReadable log → BeginsAt log from phase → from ≤ to → to ≤ length log → NoJoinBetween log from to → lanes_in 0 log ≤ lanes → length log < most_calls
    → IsPhaseBehind lanes phase (take from log) (slice_range log from to)
phase_ready log lanes from to phase readable begins low high none lanes_are few =
    let front : List Line = take from log in
    let lines : List Line = slice_range log from to in
    let rest : List Line = drop to log in
    let cut : log ≡ front ++ (lines ++ rest) = cut_at log from to low high in
    let there : IsReadable (front ++ (lines ++ rest)) = subst IsReadable cut readable in
    record {
      one = no_joins log from to high none;
      named = phase_named front lines rest there;
      placed = subst (λ (s : Bool). AreInPlaceFrom s lines) begins.fresh (phase_placed front lines rest there);
      numbered = stretch_apart front lines rest (subst IsReadable (sym (append_assoc front lines rest)) there);
      lanes_are = omega (arith, lanes_before 0 lines rest, subst (λ (n : ℕ). lanes_in n (lines ++ rest) ≤ lanes_in 0 (front ++ (lines ++ rest))) begins.lane_is (lanes_behind 0 front (lines ++ rest)), ap (lanes_in 0) cut, lanes_are);
      lane_is = begins.lane_is;
      phase_is = begins.phase_is;
      few = omega (arith, few, ap length cut, length-append front (lines ++ rest), length-append lines rest);
    }

-- ---- what the lanes await

pub trees_before : (phase : ℕ) (front : List Line) (p : PlayerState) → IsPlayed phase front p → length p.trees ≡ length (trees_of front)
trees_before phase front p played = played.1.ran.count

pub can_do : (lanes phase : ℕ) (front lines : List Line) (p : PlayerState) (steps : List Step) (count : ℕ) → 1 ≤ lanes → lanes ≤ most_lanes → IsPhaseBehind lanes phase front lines → IsBegun phase front lines p steps → length p.trees ≡ count → CanDo lanes count lines
can_do lanes phase front lines p steps count some few ready begun trees =
    let declared : length (trees_from (trees_of front) phase lines) ≡ count = ap (λ (n : ℕ). length (trees_from (trees_of front) n lines)) (sym ready.phase_is) ∙ (ap length (sym (trees_behind front lines)) ∙ (sym begun.1.ran.count ∙ trees)) in
    record {
      some = some;
      few = few;
      lanes_are = ready.lanes_are;
      own = λ lane. rw (← declared) (own_lines (trees_of front) lane 0 phase lines ready.named);
      numbered = ready.numbered;
      short = omega (arith, ready.few);
    }

-- ---- behind a join

one_more : (log : List Line) (n : ℕ) (x : Line) → slice_get log n ≡ Some x → take (suc n) log ≡ take n log ++ x ∷ []
one_more [] n x e = absurd (omega (arith, slice_get_within [] n x e))
one_more (y ∷ log) zero x e = ap (λ (z : Line). z ∷ []) cc
one_more (y ∷ log) (suc n) x e = ap (λ z. y ∷ z) (one_more log n x e)

joined_trees : (lines : List Line) (number : ℕ) → trees_of (lines ++ record { number = number; item = Join } ∷ []) ≡ trees_of lines
joined_trees lines number = trees_more lines (record { number = number; item = Join }) ∙ append-nil (trees_of lines)

joined_steps : (lines : List Line) (number : ℕ) → steps_of (lines ++ record { number = number; item = Join } ∷ []) ≡ steps_of lines
joined_steps lines number = asked_more lines (record { number = number; item = Join }) ∙ append-nil (steps_of lines)

join_played : (phase number : ℕ) (lines : List Line) (p : PlayerState) → IsPlayed phase lines p → IsPlayed phase (lines ++ record { number = number; item = Join } ∷ []) p
join_played phase number lines p (steps, q) = (
  steps,
  record {
    ran = rw (joined_trees lines number) q.ran;
    done = rw (joined_steps lines number) q.done;
    told = q.told;
    known = rw (joined_trees lines number) q.known;
    few = λ i d within. omega (arith, q.few i d within, length-append lines (record { number = number; item = Join } ∷ []));
  },
)

pub join_is : (item : Item) → is_join item ≡ true → item ≡ Join
join_is Join join = refl
join_is item join = absurd (false≢true join)

pub behind_join : (log : List Line) (to phase : ℕ) (p : PlayerState) → to < length log → ((line : Line) → is_join (get_or log to line).item ≡ true) → IsPlayed phase (take to log) p → IsPlayed phase (take (to + 1) log) p
behind_join log to phase p within join played =
    let (line, line_is) = some_at log to within in
    let item : line.item ≡ Join = join_is line.item (subst (λ (z : Line). is_join z.item ≡ true) (get_or_from_slice_get log to line line line_is) (join line)) in
    let all : take (to + 1) log ≡ take to log ++ record { number = line.number; item = Join } ∷ [] =
    (let next : to + 1 ≡ suc to = omega arith in ap (λ (n : ℕ). take n log) next) ∙ (one_more log to line line_is ∙ (λ i. take to log ++ record { number = line.number; item = item i } ∷ [])) in
    subst (λ (z : List Line). IsPlayed phase z p) (sym all) (join_played phase line.number (take to log) p played)

pub next_begins : (log : List Line) (from to phase : ℕ) → BeginsAt log from phase → from ≤ to → to < length log → IsOnePhase (slice_range log from to) → ((line : Line) → is_join (get_or log to line).item ≡ true) → BeginsAt log (to + 1) (phase + 1)
next_begins log from to phase begins low within one join =
    let (line, line_is) = some_at log to within in
    let item : line.item ≡ Join = join_is line.item (subst (λ (z : Line). is_join z.item ≡ true) (get_or_from_slice_get log to line line line_is) (join line)) in
    let j : Line = record { number = line.number; item = Join } in
    let all : take (to + 1) log ≡ take to log ++ j ∷ [] =
    (let next : to + 1 ≡ suc to = omega arith in ap (λ (n : ℕ). take n log) next) ∙ (one_more log to line line_is ∙ (λ i. take to log ++ record { number = line.number; item = item i } ∷ [])) in
    let same : phase_behind 0 (take to log) ≡ phase = ap (phase_behind 0) (sym (front_and_phase log from to low (omega (arith, within)))) ∙ (phase_append 0 (take from log) (slice_range log from to) ∙ (one_phase (phase_behind 0 (take from log)) (slice_range log from to) one ∙ begins.phase_is)) in
    record {
      within = omega (arith, within);
      low = omega (arith, begins.low, low);
      lane_is = ap (lane_behind 0) all ∙ lane_more (take to log) j;
      phase_is = ap (phase_behind 0) all ∙ (phase_more (take to log) j ∙ ap (λ (n : ℕ). n + 1) same);
      fresh = ap (stepped_from false) all ∙ stepped_more (take to log) j;
    }
  where
    one_phase : (phase : ℕ) (lines : List Line) → IsOnePhase lines → phase_behind phase lines ≡ phase
    one_phase phase [] one = refl
    one_phase phase (line ∷ lines) one = ap (λ (n : ℕ). phase_behind n lines) (same_phase phase line.item (one 0 line (omega arith))) ∙ one_phase phase lines (λ i d within. one (suc i) d (omega (arith, within)))

pub log_begins : (log : List Line) → BeginsAt log 0 0
log_begins log = record { within = omega arith; low = omega arith; lane_is = refl; phase_is = refl; fresh = refl }

-- ---- a log's lanes, and its run

pub log_lanes : (lines : List Line) → IsReadable lines → (1 ≤ lanes_in 0 lines) × (lanes_in 0 lines ≤ most_lanes)
log_lanes lines readable = (some_lane 0 lines, few_lanes 0 0 lines readable.named (omega arith))

pub run_of : (log : Log) (lines : List Line) (rows phase : ℕ) (t : Transcript) (p : PlayerState) → lines ≡ log.lines → p.rows ≡ rows → IsPlayed phase lines p → t.version ≡ log.version → t.entries ≡ p.entries → (p.known ≡ map (λ d. d.tree) (trees_of lines) → t.lists ≡ listings_of (trees_of lines) (histories_of p.trees)) → IsRun log rows t
run_of log lines rows phase t p lines_are rows_are (steps, played) version entries lists =
    let ran : Ran p.passes rows phase (trees_of log.lines) steps p.trees = subst (λ (ls : List Line). Ran p.passes rows phase (trees_of ls) steps p.trees) lines_are (subst (λ (n : ℕ). Ran p.passes n phase (trees_of lines) steps p.trees) rows_are played.ran) in
    ran_is_run p.passes rows phase log t steps p.trees ran
    (subst (λ (ls : List Line). AreDone (steps_of ls) steps) lines_are played.done)
    version
    (entries ∙ played.told)
    (subst (λ (ls : List Line). t.lists ≡ listings_of (trees_of ls) (histories_of p.trees)) lines_are (lists played.known))

-- The numbers of a run of a log that can be read are of 64 bits.
use Rattle.mt_verify.proofs.Prelude.{◌≡◌, ℕ, zero, suc, ◌+◌, ◌-◌, ◌==◌, ◌<◌, ◌≤◌, ◌^◌, if◌then◌else◌, Bool, true, false, List, [], ◌∷◌, ◌++◌, Option, Some, None, IfSome, All, length, get_or, slice_get, arith, refl, sym, subst, length-append, AllByRecursion, cons_option, enumerate_from, filter_map, cond_both, All-from_recursion, recursion_from_All, length-enumerate_from, All-permutation, IsPermutation-sym, length_permutation, slice_get_within, Kind, Range, Call, Store, StorePre, Insert, Erase, Alloc, Ralloc, Gap, Rgap, Clear, Record, History, map_at, IsLog, phase_after, ReadSoFar, after_item, most_scan_steps, nothing_read, scan_steps_of, Asked, Outcome, Called, Looked, Counted, Step, AreDone, ScanGoesOnFrom, IsDone, IsRunBy, AreScanSteps, IsTrueOf, OpensAs, asked_from, calls_before, is_answered, lane_after, lane_of, numbered_on, place_after, place_within, record_in, Opening, Empty, CopyOf, Declared, trees_of, Item, Tree, Join, Dup, Check, Write, Ask, Scan, Line, Log, Transcript, CallSays, CanAllFollow, ItemSays, at_line, log_follows, IsSmall, IsSmallRange}
use Rattle.mt_log.specs.declared.lines.Item.TheVariants.{Lane}
use Rattle.mt_verify.proofs.Placed.{same_number}
use Rattle.mt_verify.proofs.Runs.{some_at}
use Rattle.mt_verify.proofs.SmallMaps.{EntryFits, IsSmallMap, answer_is_small, map_at_is_small, nothing_is_small}

-- ---- what is kept of a list, and what is known of it

module _ {X Y : Type 0} (P : Y → Type 0) (f : X → Option Y) where
  one_kept : (o : Option Y) (rest : List Y) → IfSome o P → AllByRecursion P rest → AllByRecursion P (cons_option o rest)
  one_kept None rest one all = all
  one_kept (Some y) rest one all = (one, all)

  each_kept : (xs : List X) → AllByRecursion (λ x. IfSome (f x) P) xs → AllByRecursion P (filter_map f xs)
  each_kept [] all = tt
  each_kept (x ∷ xs) all = one_kept (f x) (filter_map f xs) all.0 (each_kept xs all.1)

  one_was : (o : Option Y) (rest : List Y) → AllByRecursion P (cons_option o rest) → IfSome o P × AllByRecursion P rest
  one_was None rest all = (tt, all)
  one_was (Some y) rest all = (all.0, all.1)

  each_was : (xs : List X) → AllByRecursion P (filter_map f xs) → AllByRecursion (λ x. IfSome (f x) P) xs
  each_was [] all = tt
  each_was (x ∷ xs) all = let both = one_was (f x) (filter_map f xs) all in (both.0, each_was xs both.1)

module _ {X Y : Type 0} (f : X → Option Y) where
  one_at_most : (o : Option Y) (rest : List Y) → length (cons_option o rest) ≤ 1 + length rest
  one_at_most None rest = omega arith
  one_at_most (Some y) rest = omega arith

  pub fewer_kept : (xs : List X) → length (filter_map f xs) ≤ length xs
  fewer_kept [] = omega arith
  fewer_kept (x ∷ xs) = omega (arith, one_at_most (f x) (filter_map f xs), fewer_kept xs)

module _ {X : Type 0} (P : ℕ × X → Type 0) where
  places_from : (n : ℕ) (xs : List X) → ((i : ℕ) (x : X) → n ≤ i → i < n + length xs → P (i, x)) → AllByRecursion P (enumerate_from n xs)
  places_from n [] all = tt
  places_from n (x ∷ xs) all = (all n x (omega arith) (omega arith), places_from (n + 1) xs (λ i y from to. all i y (omega arith) (omega arith)))

elements_of : {X : Type 0} (P : X → Type 0) (n : ℕ) (xs : List X) → AllByRecursion (λ (e : ℕ × X). P e.1) (enumerate_from n xs) → AllByRecursion P xs
elements_of P n [] all = tt
elements_of P n (x ∷ xs) all = (all.0, elements_of P (n + 1) xs all.1)

-- ---- what the calls of a log say, and what was done of it

-- the entry of a step's call is of 64 bits
abbrev DoneFits : Outcome → Type 0
DoneFits (Called number call reply) = EntryFits call
DoneFits (Looked lo hi k query value) = Unit {0}
DoneFits (Counted said ranges) = Unit {0}

abbrev SaysEntry : Item → Type 0
SaysEntry (Tree name kind) = Unit {0}
SaysEntry (Lane lane) = Unit {0}
SaysEntry Join = Unit {0}
SaysEntry (Dup from name) = Unit {0}
SaysEntry (Check tree) = Unit {0}
SaysEntry (Write tree call) = EntryFits call
SaysEntry (Ask tree query) = Unit {0}
SaysEntry (Scan tree index max count) = Unit {0}

call_says : (call : Call) → CallSays call → EntryFits call
call_says (Store first last entry) says = says.2
call_says (StorePre first last entry) says = says.2
call_says (Insert first last entry) says = says.2
call_says (Erase index) says = tt
call_says (Alloc size min max entry) says = says.3
call_says (Ralloc size min max entry) says = says.3
call_says (Gap size min max) says = tt
call_says (Rgap size min max) says = tt
call_says Clear says = tt

item_says : (item : Item) → ItemSays item → SaysEntry item
item_says (Tree name kind) says = tt
item_says (Lane lane) says = tt
item_says Join says = tt
item_says (Dup from name) says = tt
item_says (Check tree) says = tt
item_says (Write tree call) says = call_says call says
item_says (Ask tree query) says = tt
item_says (Scan tree index max count) says = tt

done_append : (first rest : List Step) → AllByRecursion (λ (s : Step). DoneFits s.outcome) first → AllByRecursion (λ (s : Step). DoneFits s.outcome) rest → AllByRecursion (λ (s : Step). DoneFits s.outcome) (first ++ rest)
done_append [] rest a b = b
done_append (s ∷ first) rest a b = (a.0, done_append first rest a.1 b)

-- how many steps a line may have
abbrev steps_by : Item → ℕ
steps_by (Scan tree index max count) = count
steps_by item = 1

-- what is known of the steps of a line: their calls' entries, and how many they are
abbrev Known : ℕ → List Step → Type 0
Known count steps = AllByRecursion (λ (s : Step). DoneFits s.outcome) steps × (length steps ≤ count)

none_known : (count : ℕ) (steps : List Step) → steps ≡ [] → Known count steps
none_known count steps none = subst (Known count) (sym none) (tt, omega arith)

one_known : (steps : List Step) (s : Step) → steps ≡ s ∷ [] → DoneFits s.outcome → Known 1 steps
one_known steps s is fits = subst (Known 1) (sym is) ((fits, tt), omega arith)

goes_known : (scans : Option ℕ → List Step → Type 0) (max count : ℕ) → ((at : Option ℕ) (steps : List Step) → scans at steps → Known count steps) → (value : Option Range) (rest : List Step) → ScanGoesOnFrom scans max value rest → Known count rest
goes_known scans max count each None rest none = none_known count rest none
goes_known scans max count each (Some r) rest scan = each (place_after max r) rest scan

scan_known : (a : Asked) (tree max count : ℕ) (at : Option ℕ) (steps : List Step) → AreScanSteps a tree max count at steps → Known count steps
scan_known a tree max zero at steps done = none_known 0 steps done
scan_known a tree max (suc count) at steps done =
    let more = goes_known (AreScanSteps a tree max count) max count (λ at' rest. scan_known a tree max count at' rest) done.3 done.4 done.6 in
    subst (Known (suc count)) (sym done.5) ((tt, more.0), omega (arith, more.1))

item_known : (a : Asked) (item : Item) (steps : List Step) → SaysEntry item → IsDone a item steps → Known (steps_by item) steps
item_known a (Tree name kind) steps says done = none_known 1 steps done
item_known a (Lane lane) steps says done = none_known 1 steps done
item_known a Join steps says done = none_known 1 steps done
item_known a (Dup from name) steps says done = one_known steps _ done.1 tt
item_known a (Check tree) steps says done = one_known steps _ done.1 tt
item_known a (Write tree call) steps says done = one_known steps _ done.2 says
item_known a (Ask tree query) steps says done = one_known steps _ done.4 tt
item_known a (Scan tree index max count) steps says done = scan_known a tree max count (place_within index max) steps done

steps_by_scan : (item : Item) → steps_by item ≤ 1 + scan_steps_of item
steps_by_scan (Tree name kind) = omega arith
steps_by_scan (Lane lane) = omega arith
steps_by_scan Join = omega arith
steps_by_scan (Dup from name) = omega arith
steps_by_scan (Check tree) = omega arith
steps_by_scan (Write tree call) = omega arith
steps_by_scan (Ask tree query) = omega arith
steps_by_scan (Scan tree index max count) = omega arith

-- the steps of a line, if it is answered, and of those behind it
asked_known : (b : Bool) (a : Asked) (asked : List Asked) (steps : List Step) (one others : ℕ) → AreDone (if b then a ∷ asked else asked) steps → ((mine : List Step) → IsDone a a.item mine → Known one mine) → ((rest : List Step) → AreDone asked rest → Known others rest) → Known (one + others) steps
asked_known true a asked steps one others done mine rest =
    let first = mine done.0 done.3 in
    let behind = rest done.1 done.4 in
    subst (Known (one + others)) (sym done.2) (done_append done.0 done.1 first.0 behind.0, omega (arith, length-append done.0 done.1, first.1, behind.1))
asked_known false a asked steps one others done mine rest = let behind = rest steps done in (behind.0, omega (arith, behind.1))

lines_known : (r : ReadSoFar) (lane phase : ℕ) (lines : List Line) (steps : List Step) → CanAllFollow r lines → r.scanned ≤ most_scan_steps → AreDone (asked_from lane phase lines) steps → Known (length lines + (most_scan_steps - r.scanned)) steps
lines_known r lane phase [] steps follow scanned done = none_known _ steps done
lines_known r lane phase (line ∷ lines) steps follow scanned done =
    let item : Item = line.item in
    let next : ReadSoFar = after_item (at_line line.number r) item in
    let scans : scan_steps_of item ≤ most_scan_steps - r.scanned = follow.1.follows.scans in
    let a : Asked = record { line = line.number; lane = lane_of lane item; phase = phase; item = item } in
    let all = asked_known (is_answered item) a (asked_from (lane_after lane item) (phase_after phase item) lines) steps
    (steps_by item) (length lines + (most_scan_steps - next.scanned)) done
    (λ mine. item_known a item mine (item_says item follow.1.says))
    (λ rest. lines_known next (lane_after lane item) (phase_after phase item) lines rest follow.2 (omega arith)) in
    (all.0, omega (arith, all.1, steps_by_scan item, scans, scanned))

-- ---- histories

module _ (log : Log) (rows : ℕ) (t : Transcript) (steps : List Step) (trees : List History) (run : IsRunBy log rows t steps trees) (fits : AllByRecursion (λ (s : Step). DoneFits s.outcome) steps) where
  -- a step's call is numbered so, and its entry is of 64 bits
  call_kept : (tree : ℕ) (s : Step) → DoneFits s.outcome → IfSome (numbered_on tree s) (λ e. EntryFits e.1.call)
  call_kept tree s done = cond_both (s.tree == tree) (record_in s.lane s.outcome) None (λ o. IfSome o (λ (e : ℕ × Record). EntryFits e.1.call)) (λ here. of_record s.lane s.outcome done) (λ there. tt)
    where
      of_record : (lane : ℕ) (o : Outcome) → DoneFits o → IfSome (record_in lane o) (λ e. EntryFits e.1.call)
      of_record lane (Called number call reply) done = done
      of_record lane (Looked lo hi k query value) done = tt
      of_record lane (Counted said ranges) done = tt

  calls_kept : (tree : ℕ) (xs : List Step) → AllByRecursion (λ (s : Step). DoneFits s.outcome) xs → AllByRecursion (λ s. IfSome (numbered_on tree s) (λ e. EntryFits e.1.call)) xs
  calls_kept tree [] done = tt
  calls_kept tree (s ∷ xs) done = (call_kept tree s done.0, calls_kept tree xs done.1)

  records_fit : (tree : ℕ) (h : History) → slice_get trees tree ≡ Some h → AllByRecursion (λ (r : Record). EntryFits r.call) h.records
  records_fit tree h is =
      let P : ℕ × Record → Type 0 = λ e. EntryFits e.1.call in
      let once = run.once tree h is in
      let kept : All P (filter_map (numbered_on tree) steps) = All-from_recursion P (filter_map (numbered_on tree) steps) (each_kept P (numbered_on tree) steps (calls_kept tree steps fits)) in
      let all : All P (enumerate_from 1 h.records) = All-permutation P (filter_map (numbered_on tree) steps) (enumerate_from 1 h.records) (IsPermutation-sym (enumerate_from 1 h.records) (filter_map (numbered_on tree) steps) once) kept in
      elements_of (λ (r : Record). EntryFits r.call) 1 h.records (recursion_from_All P (enumerate_from 1 h.records) all)

  few_records : (tree : ℕ) (h : History) → slice_get trees tree ≡ Some h → length h.records ≤ length steps
  few_records tree h is = omega (arith, length_permutation (enumerate_from 1 h.records) (filter_map (numbered_on tree) steps) (run.once tree h is), length-enumerate_from 1 h.records, fewer_kept (numbered_on tree) steps)

  -- ---- openings: a copy's source is declared before it

  module _ (earlier : (tree source phase : ℕ) (d : Declared) → slice_get (trees_of log.lines) tree ≡ Some d → d.opening ≡ CopyOf source phase → source < tree) where
    opens_small : (tree : ℕ) (h : History) (d : Declared) (o : Opening) → slice_get (trees_of log.lines) tree ≡ Some d → d.opening ≡ o → OpensAs steps trees o h
        → ((source : ℕ) (g : History) → source < tree → slice_get trees source ≡ Some g → IsSmallMap g.kind g.opening) → IsSmallMap h.kind h.opening
    opens_small tree h d Empty at is opens before = subst (IsSmallMap h.kind) (sym opens) (nothing_is_small h.kind)
    opens_small tree h d (CopyOf source phase) at is opens before =
        let g : History = opens.0 in
        let low : source < tree = earlier tree source phase d at is in
        let map : IsSmallMap g.kind (map_at g (calls_before steps source phase)) = map_at_is_small g (calls_before steps source phase) (records_fit source g opens.1) (before source g low opens.1) in
        subst (λ (kind : Kind). IsSmallMap kind h.opening) (sym opens.2) (subst (IsSmallMap g.kind) (sym opens.3) map)

    opening_small : (n tree : ℕ) (h : History) → tree < n → slice_get trees tree ≡ Some h → IsSmallMap h.kind h.opening
    opening_small zero tree h low is = absurd (omega arith)
    opening_small (suc n) tree h low is =
        let d = some_at (trees_of log.lines) tree (omega (arith, run.count, slice_get_within trees tree h is)) in
        let opens = run.opened tree d.0 h d.1 is in
        opens_small tree h d.0 d.0.opening d.1 refl opens.opening (λ source g less at. opening_small n source g (omega (arith, less, low)) at)

    -- ---- a step

    numbers_small : (tree : ℕ) (h : History) → slice_get trees tree ≡ Some h → All (λ (s : Step). IfSome (numbered_on tree s) (λ e. e.0 ≤ length steps)) steps
    numbers_small tree h is =
        let P : ℕ × Record → Type 0 = λ e. e.0 ≤ length steps in
        let few = few_records tree h is in
        let listed : All P (enumerate_from 1 h.records) = All-from_recursion P (enumerate_from 1 h.records) (places_from P 1 h.records (λ i r from to. omega arith)) in
        let kept : All P (filter_map (numbered_on tree) steps) = All-permutation P (enumerate_from 1 h.records) (filter_map (numbered_on tree) steps) (run.once tree h is) listed in
        All-from_recursion (λ (s : Step). IfSome (numbered_on tree s) P) steps (each_was P (numbered_on tree) steps (recursion_from_All P (filter_map (numbered_on tree) steps) kept))

    outcome_small : (h : History) (lane before : ℕ) (o : Outcome) → length steps < 2 ^ 64 → length h.records ≤ length steps → ((k : ℕ) → IsSmallMap h.kind (map_at h k)) → IfSome (record_in lane o) (λ e. e.0 ≤ length steps) → IsTrueOf h before o → IsSmall o
    outcome_small h lane before (Called number call reply) long few maps numbered holds = omega (arith, numbered, long)
    outcome_small h lane before (Looked lo hi k query value) long few maps numbered holds = (
      omega (arith, holds.0.from, holds.0.to, holds.1, few, long),
      omega (arith, holds.1, few, long),
      subst IsSmallRange (sym holds.0.answered) (answer_is_small h.kind (map_at h k) query (maps k)),
    )
    outcome_small h lane before (Counted said ranges) long few maps numbered holds = tt

    pub steps_small : length steps < 2 ^ 64 → All (λ (s : Step). IsSmall s.outcome) steps
    steps_small long k d within =
        let s : Step = get_or steps k d in
        let stands = run.reads k d within in
        let h : History = stands.0 in
        let mine = numbers_small s.tree h stands.1 k d within in
        outcome_small h s.lane (calls_before steps s.tree s.phase) s.outcome long (few_records s.tree h stands.1)
        (λ n. map_at_is_small h n (records_fit s.tree h stands.1) (opening_small (s.tree + 1) s.tree h (omega arith) stands.1))
        (subst (λ (b : Bool). IfSome (if b then record_in s.lane s.outcome else None) (λ (e : ℕ × Record). e.0 ≤ length steps)) (same_number s.tree) mine) stands.2

pub run_small : (log : Log) (rows : ℕ) (t : Transcript) (steps : List Step) (trees : List History) → IsLog log → length log.lines < 2 ^ 63 → IsRunBy log rows t steps trees
    → ((tree source phase : ℕ) (d : Declared) → slice_get (trees_of log.lines) tree ≡ Some d → d.opening ≡ CopyOf source phase → source < tree) → All (λ (s : Step). IsSmall s.outcome) steps
run_small log rows t steps trees is lines run earlier =
    let known = lines_known nothing_read 0 0 log.lines steps (log_follows log is).1 (omega arith) run.asked in
    steps_small log rows t steps trees run known.0 earlier (omega (arith, known.1, lines))

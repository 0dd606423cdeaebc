-- What is found of a text makes a run of it.
use Rattle.mt_verify.proofs.Prelude.{◌≡◌, ◌≢◌, ℕ, zero, suc, ◌+◌, ◌-◌, ◌<◌, ◌≤◌, ◌==◌, true, List, [], ◌∷◌, Option, Some, None, length, map, slice_get, get_or, refl, sym, ap, ◌∙◌, subst, inl, inr, arith, IfSome, All, AllPairs, AllByRecursion, Contains, enumerate_from, filter_map, list_any, cons_option, IsPermutation, cases_Bool, eqb-true, same_Some, slice_get_cases, get_or_from_slice_get, slice_get-get_or, All-from_recursion, recursion_from_All, Contains-get_or, length-enumerate_from, get_or-enumerate_from, Contains-permutation, Clear, Query, Ok, Answer, Holder, all_map, Record, History, map_at, Log, Transcript, Step, IsHeldRightly, IsRunBy, IsTrueOf, Opens, OpensAs, StandsIn, InOrder, calls_before, entry_of, holder_in, is_read, is_read_by, listings_of, numbered_on, AreDone, steps_of, Declared, IsReadable, Opening, Empty, CopyOf, trees_of, ToldLine, What, Wrote, Got, Copied, Lawful, AreTold, IsTold, calls_of_phases_before, is_got, number_for, numbers_behind, reads_told, ToldRead, ArePicked, LanesArePicked, points_on, AreUpTo, lo_of, read_number, points_of}
use Rattle.mt_verify.specs.Windows as windows
use Rattle.mt_verify.proofs.Filled.{AreRight, IsRight, EachLater, EndsBefore, EndsIn, filled, history_in, numbered_by, numbered_in, outcome_in, step_in}
use Rattle.mt_verify.proofs.Found.{AllReadsOn, AllReadsRise, IsFound, own_looks, IsHeldTold, IsOpened, IsRightLine, OpensTold, holder_told, is_told_read}
use Rattle.mt_verify.proofs.FilledReads.{all_points, each_later, filled_looks, filled_points, filled_rises, got_of, least_reads, least_rises, lines_right, pairs_of}
use Rattle.mt_verify.proofs.FilledSteps.{Stands, calls_are, calls_numbered, filled_is_told, filled_stands}
use Rattle.mt_verify.proofs.LowerPhases.{IsCalled, IsReadAt, call_of, ends_before, read_at}
use Rattle.mt_verify.proofs.Ordered.{order_joins}
use Rattle.mt_verify.proofs.Runs.{all_at, from_of}
use Rattle.mt_verify.proofs.Refused.{picked_is_the_least}
use Rattle.mt_verify.proofs.ToldAlike.{told_alike_by_one}
use Rattle.mt_verify.proofs.ToldSteps.{order_told}

-- ---- histories by their numbers

pub history_at : (trees : List History) (tree : ℕ) (h : History) → slice_get trees tree ≡ Some h → history_in trees tree ≡ h
history_at trees tree h is = rw is refl

some_history : (trees : List History) (tree : ℕ) → tree < length trees → slice_get trees tree ≡ Some (history_in trees tree)
some_history trees tree within = elim (slice_get_cases trees tree).1 [
  | inl found ↦ rw found.2 refl
  | inr past ↦ absurd (omega (arith, past.0))
]

opens : (told : List ToldLine) (trees : List History) (steps : List Step) (d : Declared) (h : History) → ((tree phase : ℕ) → calls_before steps tree phase ≡ calls_of_phases_before told tree phase) → IsOpened told trees d h → Opens steps trees d h
opens told trees steps d h same is = record { kind = is.kind; opening = opens_as d.opening is.opening }
  where
    opens_as : (o : Opening) → OpensTold told trees o h → OpensAs steps trees o h
    opens_as Empty is = is
    opens_as (CopyOf tree phase) is = (is.0, is.1, is.2, is.3 ∙ ap (map_at is.0) (sym (same tree phase)))

-- ---- each number is told

called_by : (h : History) (lane number : ℕ) (r : Record) (what : What) → numbered_by h lane what ≡ Some (number, r) → call_of what ≡ number
called_by h lane number r (Wrote n call reply) is = ap (λ (p : ℕ × Record). p.0) (same_Some _ _ is)
called_by h lane number r (Got lo hi query told) is = absurd (cc)
called_by h lane number r (Copied count) is = absurd (cc)
called_by h lane number r (Lawful count) is = absurd (cc)

-- where a list of such items has one, some line has it
behind : (told : List ToldLine) (t : ToldLine) (tree number : ℕ) → IsCalled told tree number → IsCalled (t ∷ told) tree number
behind told t tree number c = record { place = suc c.place; told_so = c.told_so; is = c.is; on = c.on; calls = c.calls }

line_here : (h : History) (tree number : ℕ) (r : Record) (t : ToldLine) (told : List ToldLine) → t.tree ≡ tree → ((j : ℕ) → slice_get (filter_map (numbered_in h tree) told) j ≡ Some (number, r) → IsCalled told tree number)
    → (item : Option (ℕ × Record)) → numbered_by h t.lane t.what ≡ item → (i : ℕ) → slice_get (cons_option item (filter_map (numbered_in h tree) told)) i ≡ Some (number, r) → IsCalled (t ∷ told) tree number
line_here h tree number r t told here rest None none i at = behind told t tree number (rest i at)
line_here h tree number r t told here rest (Some x) has zero at = record { place = 0; told_so = t; is = refl; on = here; calls = called_by h t.lane number r t.what (has ∙ at) }
line_here h tree number r t told here rest (Some x) has (suc i) at = behind told t tree number (rest i at)

pub has_line : (h : History) (tree number i : ℕ) (r : Record) (told : List ToldLine) → slice_get (filter_map (numbered_in h tree) told) i ≡ Some (number, r) → IsCalled told tree number
has_line h tree number i r [] is = absurd (cc)
has_line h tree number i r (t ∷ told) is = elim (cases_Bool (t.tree == tree)) [
  | inr other ↦
      let same : slice_get (filter_map (numbered_in h tree) (t ∷ told)) i ≡ slice_get (filter_map (numbered_in h tree) told) i = rw other refl in
      behind told t tree number (has_line h tree number i r told (sym same ∙ is))
  | inl here ↦
      let same : slice_get (filter_map (numbered_in h tree) (t ∷ told)) i ≡ slice_get (cons_option (numbered_by h t.lane t.what) (filter_map (numbered_in h tree) told)) i = rw here refl in
      line_here h tree number r t told (eqb-true t.tree tree here) (λ j at. has_line h tree number j r told at) (numbered_by h t.lane t.what) refl i (sym same ∙ is)
]

-- each number of a history is that of a call that is told
each_is_called : (told : List ToldLine) (tree : ℕ) (h : History) → IsPermutation (enumerate_from 1 h.records) (filter_map (numbered_in h tree) told) → (n : ℕ) → 1 ≤ n → n ≤ length h.records → IsCalled told tree n
each_is_called told tree h once n low high =
    let d : ℕ × Record = (0, record { pass = 0; call = Clear; reply = Ok }) in
    let i : ℕ = n - 1 in
    let within : i < length h.records = omega (arith, low, high) in
    let item : ℕ × Record = get_or (enumerate_from 1 h.records) i d in
    let is : item ≡ (1 + i, get_or h.records i d.1) = get_or-enumerate_from 1 h.records i d within in
    let c : Contains (filter_map (numbered_in h tree) told) item = Contains-permutation (enumerate_from 1 h.records) (filter_map (numbered_in h tree) told) item once (Contains-get_or (enumerate_from 1 h.records) i d (omega (arith, within, length-enumerate_from 1 h.records))) in
    let there : slice_get (filter_map (numbered_in h tree) told) c.0 ≡ Some item = elim (slice_get_cases (filter_map (numbered_in h tree) told) c.0).1 [
      | inl found ↦ found.2 ∙ ap Some (sym (get_or_from_slice_get (filter_map (numbered_in h tree) told) c.0 found.0 item found.2) ∙ c.2)
      | inr past ↦ absurd (omega (arith, past.0, c.1))
    ] in
    let number : 1 + i ≡ n = omega (arith, low) in
    has_line h tree n c.0 (get_or h.records i d.1) told (there ∙ ap Some (is ∙ ap (λ (m : ℕ). (m, get_or h.records i d.1)) number))

-- ---- reads of lower phases end before

-- the window of a read ends in its tree's history
within_at : (version : ℕ) (trees : List History) (all told : List ToldLine) (points : List ℕ) (i : ℕ) (s : ToldLine) (lo hi : ℕ) (q : Query) (a : Answer) → AreRight version trees all told points → slice_get told i ≡ Some s → s.what ≡ Got lo hi q a → hi ≤ length (history_in trees s.tree).records
within_at version trees all [] points i s lo hi q a right is what = absurd (cc)
within_at version trees all (t ∷ told) points (suc i) s lo hi q a right is what = within_at version trees all told (numbers_behind t.what points) i s lo hi q a right.3 is what
within_at version trees all (t ∷ told) points zero s lo hi q a right is what =
    let same : t ≡ s = same_Some t s is in
    let got : t.what ≡ Got lo hi q a = ap (λ (x : ToldLine). x.what) same ∙ what in
    let read = subst (λ (w : What). IsRight version (history_in trees t.tree) (calls_of_phases_before all t.tree t.phase) (number_for t.what points) w) got right.2 in
    subst (λ (x : ToldLine). hi ≤ length (history_in trees x.tree).records) same read.2

module _ (log : Log) (rows : ℕ) (told : List ToldLine) (trees : List History) (points : List ℕ) (found : IsFound log rows told trees points) where
  each_on : AllReadsOn trees told points
  each_on tree lane within = let some = some_history trees tree within in least_reads (history_in trees tree) (reads_told tree lane told points) (found.least tree lane (history_in trees tree) some) (found.within tree lane (history_in trees tree) some)

  each_rises : AllReadsRise trees told points
  each_rises tree lane within = least_rises (history_in trees tree) (reads_told tree lane told points) (found.least tree lane (history_in trees tree) (some_history trees tree within))

  pub each_right : AreRight log.version trees told told points
  each_right = lines_right log.version trees told told points (recursion_from_All _ told found.lines) each_on found.numbered

  ends_by : (i j : ℕ) (s t : ToldLine) (w w' : What) → slice_get told i ≡ Some s → slice_get told j ≡ Some t → s.what ≡ w → t.what ≡ w' → s.tree ≡ t.tree → s.phase < t.phase → EndsIn w w'
  ends_by i j s t (Wrote number call reply) w' is at what what' tree lower = tt
  ends_by i j s t (Copied count) w' is at what what' tree lower = tt
  ends_by i j s t (Lawful count) w' is at what what' tree lower = tt
  ends_by i j s t (Got lo hi q a) (Wrote number call reply) is at what what' tree lower = tt
  ends_by i j s t (Got lo hi q a) (Copied count) is at what what' tree lower = tt
  ends_by i j s t (Got lo hi q a) (Lawful count) is at what what' tree lower = tt
  ends_by i j s t (Got lo hi q a) (Got lo' hi' q' a') is at what what' tree lower =
      let line = all_at (IsRightLine log.version trees told) told i s found.lines is in
      let some : slice_get trees t.tree ≡ Some (history_in trees t.tree) = some_history trees t.tree (subst (λ (n : ℕ). n < length trees) tree line.tree) in
      let h : History = history_in trees t.tree in
      let r : IsReadAt told t.tree i s.phase lo hi = read_at told t.tree i s lo hi q a is tree what in
      let r' : IsReadAt told t.tree j t.phase lo' hi' = read_at told t.tree j t lo' hi' q' a' at refl what' in
      let up : hi ≤ length h.records = subst (λ (n : ℕ). hi ≤ length (history_in trees n).records) tree (within_at log.version trees told told points i s lo hi q a each_right is what) in
      ends_before told t.tree (length h.records) i j lo hi lo' hi' s.phase t.phase found.order found.phases (each_is_called told t.tree h (found.once t.tree h some)) r r' lower up

  ends : EachLater EndsBefore told
  ends = each_later EndsBefore told (λ i j d before within tree lower.
      (let at : slice_get told i ≡ Some (get_or told i d) = slice_get-get_or told i d (omega (arith, before, within)) in
      let at' : slice_get told j ≡ Some (get_or told j d) = slice_get-get_or told j d within in
      ends_by i j (get_or told i d) (get_or told j d) (get_or told i d).what (get_or told j d).what at at' refl refl tree lower))

  -- ---- the run

  abbrev pub steps : List Step
  steps = filled trees told told points

  same_calls : (tree phase : ℕ) → calls_before steps tree phase ≡ calls_of_phases_before told tree phase
  same_calls tree phase = calls_are trees told told points tree phase

  pub are_told : AreTold log.version told steps
  are_told = filled_is_told log.version trees told told points each_right

  in_order : AllPairs InOrder steps
  in_order = order_joins steps (All-from_recursion _ steps (all_map (Stands trees told) (λ (s : Step). lo_of s.outcome ≤ read_number s.outcome) (λ s stands. from_of (history_in trees s.tree) (calls_of_phases_before told s.tree s.phase) s.outcome stands.true) steps (filled_stands log.version trees told told points each_right))) (record {
    printed = (order_told log.version told steps are_told).0 found.order;
    numbers = pairs_of windows.InNumbers steps (filled_rises log.version trees told told points each_rises ends each_right);
  })

  all_stand : All (StandsIn steps trees) steps
  all_stand = All-from_recursion _ steps (all_map (Stands trees told) (StandsIn steps trees) (λ s stands.
      (history_in trees s.tree, some_history trees s.tree stands.tree, subst (λ (n : ℕ). IsTrueOf (history_in trees s.tree) n s.outcome) (sym (same_calls s.tree s.phase)) stands.true)) steps (filled_stands log.version trees told told points each_right))

  -- ---- holders

  -- whether a lane reads the tree is told of it
  read_told : (lane : ℕ) (s : Step) (t r : ToldLine) (q : Step) → IsTold log.version t s → IsTold log.version r q → is_read q.outcome ≡ is_got r.what → is_read_by lane s q ≡ is_told_read lane t r
  read_told lane s t r q told told' same = rw (told'.lane, told'.tree, told.tree, told'.phase, told.phase, same) refl

  any_told : (lane : ℕ) (s : Step) (t : ToldLine) → IsTold log.version t s → (some : List ToldLine) (points : List ℕ) → AreTold log.version some (filled trees told some points) → list_any (is_read_by lane s) (filled trees told some points) ≡ list_any (is_told_read lane t) some
  any_told lane s t is [] points are = refl
  any_told lane s t is (r ∷ some) points are =
      let q : Step = step_in trees told (number_for r.what points) r in
      let same : is_read_by lane s q ≡ is_told_read lane t r = read_told lane s t r q is are.0 (got_of (history_in trees r.tree) (calls_of_phases_before told r.tree r.phase) (number_for r.what points) r.what) in
      let rest = any_told lane s t is some (numbers_behind r.what points) are.1 in
      rw (same, rest) refl

  holder_is : (h : History) (before k : ℕ) (what : What) → holder_in (outcome_in h before k what) ≡ holder_told h what
  holder_is h before k (Wrote number call reply) = refl
  holder_is h before k (Got lo hi query told) = refl
  holder_is h before k (Copied count) = refl
  holder_is h before k (Lawful count) = refl

  held_by : (t : ToldLine) (k : ℕ) → IsTold log.version t (step_in trees told k t) → IsHeldTold told trees t → IsHeldRightly steps (step_in trees told k t)
  held_by t k is held =
      subst (λ (o : Option Holder). IfSome o (λ holder. (holder.pass ≢ t.lane) × (list_any (is_read_by holder.pass (step_in trees told k t)) steps ≡ true))) (sym (holder_is (history_in trees t.tree) (calls_of_phases_before told t.tree t.phase) k t.what))
      (if_some_map (holder_told (history_in trees t.tree) t.what) (λ holder both. (both.0, any_told holder.pass (step_in trees told k t) t is told points are_told ∙ both.1)) held)
    where
      if_some_map : {P Q : Holder → Type 0} (o : Option Holder) → ((x : Holder) → P x → Q x) → IfSome o P → IfSome o Q
      if_some_map None f is = tt
      if_some_map (Some x) f is = f x is

  each_held : (some : List ToldLine) (points : List ℕ) → AreTold log.version some (filled trees told some points) → AllByRecursion (IsHeldTold told trees) some → AllByRecursion (IsHeldRightly steps) (filled trees told some points)
  each_held [] points are held = tt
  each_held (t ∷ some) points are held = (held_by t (number_for t.what points) are.0 held.0, each_held some (numbers_behind t.what points) are.1 held.1)

  -- ---- all together

  abbrev pub transcript : Transcript
  transcript = record { version = log.version; entries = map entry_of steps; lists = listings_of (trees_of log.lines) trees }

  pub is_run : AreDone (steps_of log.lines) steps → IsRunBy log rows transcript steps trees
  is_run done = record {
    version = refl;
    asked = done;
    told = refl;
    count = found.count;
    opened = λ tree d h declared is. opens told trees steps d h same_calls (found.opened tree d h declared is);
    sized = found.sized;
    once = λ tree h is.
        (let same : filter_map (numbered_on tree) steps ≡ filter_map (numbered_in h tree) told = calls_numbered trees told told points tree ∙ ap (λ (x : History). filter_map (numbered_in x tree) told) (history_at trees tree h is) in
        subst (IsPermutation (enumerate_from 1 h.records)) (sym same) (found.once tree h is));
    legal = found.legal;
    order = in_order;
    reads = all_stand;
    holders = All-from_recursion _ steps (each_held told points are_told (recursion_from_All _ told found.holders));
    lists = refl;
  }

  -- ---- its numbers are the least

  picked : LanesArePicked steps trees
  picked tree lane h is =
      subst (λ (l : List ToldRead). ArePicked (map_at h) l (points_on tree lane steps)) (sym (filled_looks log.version trees told told points tree lane each_right))
      (subst (ArePicked (map_at h) (own_looks tree lane told points)) (sym (filled_points trees told told points tree lane)) (found.least tree lane h is).picked)

  -- the points of the run are these, and no other run that is told so has lower ones
  pub least_of_all : IsReadable log.lines → AreDone (steps_of log.lines) steps → (t' : Transcript) (steps' : List Step) (trees' : List History) → IsRunBy log rows t' steps' trees' → AreTold log.version told steps' → AreUpTo points (points_of steps')
  least_of_all readable done t' steps' trees' run told' =
      subst (λ (l : List ℕ). AreUpTo l (points_of steps')) (all_points log.version trees told told points each_right)
      (picked_is_the_least log rows transcript t' steps steps' trees trees' readable (is_run done) picked run (told_alike_by_one log.version told steps steps' are_told told'))

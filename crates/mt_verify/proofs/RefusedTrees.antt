-- Where a tree cannot be gone through, no run is told so.
use Rattle.mt_verify.proofs.Prelude.{[], ◌≡◌, ℕ, zero, suc, ◌+◌, ◌<◌, ◌≤◌, ◌==◌, ◌&&◌, true, List, ◌∷◌, ◌++◌, Option, Some, None, length, nat_lt, slice_get, get_or, refl, sym, ap, ◌∙◌, subst, inl, inr, arith, codes, IfSome, decimal, Contains, cons_option, enumerate_from, filter_map, cases_Bool, eqb-true, eq-eqb, length-map, get_or-map, get_or-map-range_with_len, length-map-range_with_len, Contains-permutation, IsPermutation-sym, same_Some, slice_get_within, get_or_from_slice_get, Call, Range, Holder, Reply, answer, History, IsLegal, map_at, holder_of, most_rows, Log, Transcript, Outcome, Called, Looked, Counted, Step, IsHeldRightly, IsRunBy, IsTrueOf, StandsIn, calls_before, holder_in, is_call, numbered_on, shown, reply_text, ToldLine, What, Wrote, Got, Copied, Lawful, AreTold, IsTold, Numbered, ToldRead, Noted, Stop, is_wrote, AreAnswered, Lane, SomeHasNone, looks_of, AreMisheard, CannotGo, IsHindered, lane_looks, IsReader, AreHeard, map_of_noted, looks_on, points_on, MayHave, calls_below, line_on, lines_on, looks_by_lane, stop_at, stops_told, SomeMiscounted, calls_told, numbered_of, numbered_on_told, most_lanes}
use Rattle.mt_verify.specs.ToldReads.{calls_of_phases_before as calls_before_told}
use Rattle.mt_verify.proofs.ToldSteps.{IsToldOf, by_kind}
use Rattle.mt_verify.proofs.Answered.{heard_maps, legal_is_answered}
use Rattle.mt_verify.proofs.EachLane.{lane_may_have}
use Rattle.mt_verify.proofs.HeardCalls.{contained, number_of_item, numbered_at}
use Rattle.mt_verify.proofs.OwnLines.{below_is, lane_is}
use Rattle.mt_verify.proofs.Runs.{all_at}
use Rattle.mt_verify.proofs.ToldLooks.{looks_are_told}
use Rattle.mt_verify.proofs.ToldAlike.{nomem_text, third_m}
use Rattle.mt_verify.proofs.ToldHolders.{holders_told}
use Rattle.mt_verify.proofs.ToldRuns.{counted, heard_so, refusal_of, small_replies}

-- ---- places

-- what a list keeps of another stands somewhere there
pub record Kept {X Y : Type 0} (f : X → Option Y) (xs : List X) (y : Y) : Type 0 where
  pub place : ℕ
  pub item : X
  pub is : slice_get xs place ≡ Some item
  pub of : f item ≡ Some y

behind : {X Y : Type 0} (f : X → Option Y) (x : X) (xs : List X) (y : Y) → Kept f xs y → Kept f (x ∷ xs) y
behind f x xs y k = record { place = suc k.place; item = k.item; is = k.is; of = k.of }

kept_by : {X Y : Type 0} (f : X → Option Y) (x : X) (xs : List X) (y : Y) (o : Option Y) → f x ≡ o → ((j : ℕ) → slice_get (filter_map f xs) j ≡ Some y → Kept f xs y) → (i : ℕ) → slice_get (cons_option o (filter_map f xs)) i ≡ Some y → Kept f (x ∷ xs) y
kept_by f x xs y None of rest i at = behind f x xs y (rest i at)
kept_by f x xs y (Some z) of rest zero at = record { place = 0; item = x; is = refl; of = of ∙ at }
kept_by f x xs y (Some z) of rest (suc i) at = behind f x xs y (rest i at)

pub from_kept : {X Y : Type 0} (f : X → Option Y) (xs : List X) (i : ℕ) (y : Y) → slice_get (filter_map f xs) i ≡ Some y → Kept f xs y
from_kept f [] i y is = absurd (cc)
from_kept f (x ∷ xs) i y is = kept_by f x xs y (f x) refl (λ j at. from_kept f xs j y at) i is

-- ---- lanes

-- what may have numbers on some maps may have them on the same maps
may_move : (m m' : ℕ → List Range) (looks : List ToldRead) (k : ℕ → ℕ) → ((n : ℕ) → m n ≡ m' n) → MayHave m looks k → MayHave m' looks k
may_move m m' looks k same may = record {
  from = may.from;
  to = may.to;
  holds = λ i within l at. subst (λ (x : List Range). shown l.query (answer x l.query) ≡ l.told) (same (k i)) (may.holds i within l at);
  rise = may.rise;
  floor = may.floor;
}

-- the looks of a lane of a tree are those that are told of it
pub lane_at : (tree place : ℕ) (told : List ToldLine) (lanes : List Lane) (lane : Lane) → looks_of lanes ≡ lane_looks tree told → slice_get lanes place ≡ Some lane → lane.looks ≡ looks_by_lane (lines_on tree told) place
lane_at tree place told lanes lane same is =
    let within : place < length lanes = slice_get_within lanes place lane is in
    let many : length lanes ≡ most_lanes = omega (arith, length-map lanes (λ (t : Lane). t.looks), ap length same, length-map-range_with_len (looks_by_lane (lines_on tree told)) 0 most_lanes) in
    let here : get_or (looks_of lanes) place [] ≡ lane.looks = get_or-map (λ (t : Lane). t.looks) lanes place lane [] within ∙ ap (λ (t : Lane). t.looks) (get_or_from_slice_get lanes place lane lane is) in
    sym here ∙ (ap (λ (l : List (List ToldRead)). get_or l place []) same ∙ get_or-map-range_with_len (looks_by_lane (lines_on tree told)) 0 most_lanes place place [] (omega (arith, within, many)) (omega arith))

-- ---- stops

-- a line of a tree that tells how many ranges it had
pub record IsStopOf (tree : ℕ) (told : List ToldLine) (s : Stop) : Type 0 where
  pub place : ℕ
  pub line : ToldLine
  pub is : slice_get told place ≡ Some line
  pub on : line.tree ≡ tree
  pub stop : stop_at (calls_below (lines_on tree told) line.phase) line.what ≡ Some s

pub line_of : (tree : ℕ) (t u : ToldLine) → line_on tree t ≡ Some u → (t.tree ≡ tree) × (t ≡ u)
line_of tree t u of = elim (cases_Bool (t.tree == tree)) [
  | inl here ↦ (let some : Some t ≡ Some u = sym (rw here refl) ∙ of in (eqb-true t.tree tree here, cc))
  | inr other ↦ (let none : None ≡ Some u = sym (rw other refl) ∙ of in absurd (cc))
]

pub stop_is : (tree : ℕ) (told : List ToldLine) (i : ℕ) (s : Stop) → slice_get (stops_told (lines_on tree told)) i ≡ Some s → IsStopOf tree told s
stop_is tree told i s is =
    let own = from_kept (λ (t : ToldLine). stop_at (calls_below (lines_on tree told) t.phase) t.what) (lines_on tree told) i s is in
    let line = from_kept (line_on tree) told own.place own.item own.is in
    let both = line_of tree line.item own.item line.of in
    record { place = line.place; line = line.item; is = line.is; on = both.0; stop = subst (λ (t : ToldLine). stop_at (calls_below (lines_on tree told) t.phase) t.what ≡ Some s) (sym both.1) own.of }

-- ---- steps that are told

step_at : (version : ℕ) (told : List ToldLine) (steps : List Step) (i : ℕ) (t : ToldLine) → AreTold version told steps → slice_get told i ≡ Some t → (s : Step) × (slice_get steps i ≡ Some s) × IsTold version t s
step_at version [] steps i t are is = absurd (cc)
step_at version (x ∷ told) [] i t are is = absurd are
step_at version (x ∷ told) (s ∷ steps) zero t are is = (s, refl, subst (λ (y : ToldLine). IsTold version y s) (same_Some x t is) are.0)
step_at version (x ∷ told) (s ∷ steps) (suc i) t are is = step_at version told steps i t are.1 is

-- calls of earlier phases are as many as the tree's own lines tell
call_told : (version : ℕ) (w : What) (o : Outcome) → IsToldOf version w o → is_call o ≡ is_wrote w
call_told version = by_kind version (λ w o. is_call o ≡ is_wrote w)
    (λ number call reply n c r is. refl) (λ lo hi query answer l h k q v is. refl) (λ count s ranges. refl) (λ count s ranges. refl)

pub as_many_before : (version tree phase : ℕ) (told : List ToldLine) (steps : List Step) → AreTold version told steps → calls_before steps tree phase ≡ calls_before_told told tree phase
as_many_before version tree phase [] [] are = refl
as_many_before version tree phase [] (s ∷ steps) are = absurd are
as_many_before version tree phase (t ∷ told) [] are = absurd are
as_many_before version tree phase (t ∷ told) (s ∷ steps) are =
    let rest = as_many_before version tree phase told steps are.1 in
    let call = call_told version t.what s.outcome are.0.outcome in
    let on : (s.tree == tree) ≡ (t.tree == tree) = ap (λ (n : ℕ). n == tree) are.0.tree in
    let low : nat_lt s.phase phase ≡ nat_lt t.phase phase = ap (λ (n : ℕ). nat_lt n phase) are.0.phase in
    elim (cases_Bool ((t.tree == tree) && (nat_lt t.phase phase && is_wrote t.what))) [
      | inl counts ↦ rw (on, low, call, counts) (ap suc rest)
      | inr left ↦ rw (on, low, call, left) rest
    ]

-- what a check or a copy tells of a run's tree
count_told : (version : ℕ) (h : History) (before at : ℕ) (w : What) (o : Outcome) (s : Stop) → IsToldOf version w o → stop_at at w ≡ Some s → IsTrueOf h before o → (decimal (length (map_at h before)) ≡ s.count.now) × (s.at ≡ at)
count_told version h before at (Wrote number call reply) o s told stop true_of = absurd (cc)
count_told version h before at (Got lo hi query answer) o s told stop true_of = absurd (cc)
count_told version h before at (Copied count) (Called n c r) s told stop true_of = absurd told
count_told version h before at (Copied count) (Looked lo hi k q v) s told stop true_of = absurd told
count_told version h before at (Copied count) (Counted said ranges) s told stop true_of =
    let is : record { at = at; count = count } ≡ s = same_Some (record { at = at; count = count }) s stop in
    (ap (λ (m : List Range). decimal (length m)) (sym true_of) ∙ (told.1 ∙ ap (λ (x : Stop). x.count.now) is), sym (ap (λ (x : Stop). x.at) is))
count_told version h before at (Lawful count) (Called n c r) s told stop true_of = absurd told
count_told version h before at (Lawful count) (Looked lo hi k q v) s told stop true_of = absurd told
count_told version h before at (Lawful count) (Counted said ranges) s told stop true_of =
    let is : record { at = at; count = count } ≡ s = same_Some (record { at = at; count = count }) s stop in
    (ap (λ (m : List Range). decimal (length m)) (sym true_of) ∙ (told.1 ∙ ap (λ (x : Stop). x.count.now) is), sym (ap (λ (x : Stop). x.at) is))

-- ---- calls

pub kept_in : {X Y : Type 0} (f : X → Option Y) (xs : List X) (e : ℕ) (x : X) (y : Y) → slice_get xs e ≡ Some x → f x ≡ Some y → Contains (filter_map f xs) y
kept_in f [] e x y is of = absurd (cc)
kept_in f (z ∷ xs) zero x y is of =
    let same : f z ≡ Some y = ap f (same_Some z x is) ∙ of in
    rw same (0, omega arith, refl)
kept_in f (z ∷ xs) (suc e) x y is of = later (f z) (kept_in f xs e x y is of)
  where
    later : (o : Option _) → Contains (filter_map f xs) y → Contains (cons_option o (filter_map f xs)) y
    later None c = c
    later (Some w) c = (suc c.0, omega (arith, c.1), c.2)

on_tree : (tree : ℕ) (t : ToldLine) (item : ℕ × Numbered) → numbered_on_told tree t ≡ Some item → t.tree ≡ tree
on_tree tree t item is = elim (cases_Bool (t.tree == tree)) [
  | inl here ↦ eqb-true t.tree tree here
  | inr other ↦ (let none : None ≡ Some item = sym (rw other refl) ∙ is in absurd (cc))
]

numbered_so : (tree : ℕ) (t : ToldLine) (item : ℕ × Numbered) → numbered_on_told tree t ≡ Some item → numbered_of t.lane t.phase t.what ≡ Some item
numbered_so tree t item is = let here : (t.tree == tree) ≡ true = eq-eqb t.tree tree (on_tree tree t item is) in sym (rw here refl) ∙ is

called_so : (version lane phase : ℕ) (w : What) (o : Outcome) (item : ℕ × Numbered) → numbered_of lane phase w ≡ Some item → IsToldOf version w o → (r : Reply) × (o ≡ Called item.0 item.1.call r) × (reply_text version r ≡ item.1.reply.now)
called_so version lane phase (Wrote number call reply) (Called n c r) item is told =
    let same : (number, record { lane = lane; phase = phase; call = call; reply = reply }) ≡ item = same_Some _ item is in
    (r, (λ k. Called (told.0 k) (told.1 k) r) ∙ (λ k. Called (same k).0 (same k).1.call r), told.2 ∙ ap (λ (e : ℕ × Numbered). e.1.reply.now) same)
called_so version lane phase (Wrote number call reply) (Looked lo hi k q v) item is told = absurd told
called_so version lane phase (Wrote number call reply) (Counted s ranges) item is told = absurd told
called_so version lane phase (Got lo hi query answer) o item is told = absurd (cc)
called_so version lane phase (Copied count) o item is told = absurd (cc)
called_so version lane phase (Lawful count) o item is told = absurd (cc)

numbered_step : (tree : ℕ) (s : Step) (number : ℕ) (call : Call) (r : Reply) → s.tree ≡ tree → s.outcome ≡ Called number call r → numbered_on tree s ≡ Some (number, record { pass = s.lane; call = call; reply = r })
numbered_step tree s number call r on is = rw (eq-eqb s.tree tree on, is) refl

-- ---- a tree of a run

module _ (log : Log) (rows : ℕ) (t : Transcript) (steps : List Step) (trees : List History) (run : IsRunBy log rows t steps trees) (told : List ToldLine) (are : AreTold log.version told steps) (few : rows ≤ most_rows)
    (tree : ℕ) (h : History) (is : slice_get trees tree ≡ Some h) where
  -- its lanes may have numbers
  no_lane : (noted : List Noted) (lanes : List Lane) → AreHeard log.version noted h.records → looks_of lanes ≡ lane_looks tree told → SomeHasNone (map_of_noted h.kind h.opening noted) lanes → ⊥
  no_lane noted lanes heard looks some =
      let own : some.lane.looks ≡ looks_on tree some.place steps = lane_at tree some.place told lanes some.lane looks some.is ∙ (lane_is tree some.place told ∙ sym (looks_are_told log.version tree some.place told steps are)) in
      some.none (λ i. get_or (points_on tree some.place steps) i 0) (subst (λ (l : List ToldRead). MayHave (map_of_noted h.kind h.opening noted) l (λ i. get_or (points_on tree some.place steps) i 0)) (sym own)
      (may_move (map_at h) (map_of_noted h.kind h.opening noted) (looks_on tree some.place steps) (λ i. get_or (points_on tree some.place steps) i 0) (λ n. heard_maps log.version h noted n heard) (lane_may_have log rows t steps trees run tree some.place h is)))

  -- its checks and copies tell how many ranges it had
  no_count : (noted : List Noted) → AreHeard log.version noted h.records → SomeMiscounted (map_of_noted h.kind h.opening noted) (stops_told (lines_on tree told)) → ⊥
  no_count noted heard some =
      let stop = stop_is tree told some.place some.stop some.is in
      let s = step_at log.version told steps stop.place stop.line are stop.is in
      let g = all_at (StandsIn steps trees) steps stop.place s.0 run.reads s.1 in
      let on : s.0.tree ≡ tree = s.2.tree ∙ stop.on in
      let same : g.0 ≡ h = same_Some g.0 h (sym g.1 ∙ (ap (slice_get trees) on ∙ is)) in
      let at_step : IsTrueOf h (calls_before steps s.0.tree s.0.phase) s.0.outcome = subst (λ (x : History). IsTrueOf x (calls_before steps s.0.tree s.0.phase) s.0.outcome) same g.2 in
      let before : calls_before steps s.0.tree s.0.phase ≡ calls_below (lines_on tree told) stop.line.phase =
      ap (λ (n : ℕ). calls_before steps n s.0.phase) on ∙ (ap (calls_before steps tree) s.2.phase ∙ (as_many_before log.version tree stop.line.phase told steps are ∙ sym (below_is tree stop.line.phase told))) in
      let true_there : IsTrueOf h (calls_below (lines_on tree told) stop.line.phase) s.0.outcome = subst (λ (n : ℕ). IsTrueOf h n s.0.outcome) before at_step in
      let count = count_told log.version h (calls_below (lines_on tree told) stop.line.phase) (calls_below (lines_on tree told) stop.line.phase) stop.line.what s.0.outcome some.stop s.2.outcome stop.stop true_there in
      some.wrong (ap (λ (m : List Range). decimal (length m)) (sym (heard_maps log.version h noted some.stop.at heard)) ∙ (ap (λ (n : ℕ). decimal (length (map_at h n))) count.1 ∙ count.0))

  answered : (noted : List Noted) → AreHeard log.version noted h.records → AreAnswered h.kind log.version rows h.opening noted (length noted)
  answered noted heard =
      let sized : h.rows ≡ rows = all_at (λ (x : History). x.rows ≡ rows) trees tree h run.sized is in
      subst (λ (n : ℕ). AreAnswered h.kind log.version n h.opening noted (length noted)) sized (legal_is_answered log.version h noted heard (all_at IsLegal trees tree h run.legal is))

  no_hinder : IsHindered log.version rows told tree h.kind h.opening → ⊥
  no_hinder x =
      let heard = heard_so log rows t steps trees run told are few tree h is x.calls x.are x.noted x.heard in
      elim x.why [
        | inl other ↦ other (answered x.noted heard)
        | inr (inl some) ↦ no_lane x.noted x.lanes heard x.looks some
        | inr (inr some) ↦ no_count x.noted heard some
      ]

  -- no call of it is misheard
  no_misheard : AreMisheard told tree → ⊥
  no_misheard x =
      let some = x.some in
      let item : ℕ × Numbered = (1 + some.place, some.call) in
      let c = contained (calls_told tree told) item (Contains-permutation (enumerate_from 1 x.calls) (calls_told tree told) item x.are (numbered_at x.calls some.place some.call some.is)) in
      let line = from_kept (numbered_on_told tree) told c.place item c.is in
      let on : line.item.tree ≡ tree = on_tree tree line.item item line.of in
      let s = step_at log.version told steps line.place line.item are line.is in
      let call = called_so log.version line.item.lane line.item.phase line.item.what s.0.outcome item (numbered_so tree line.item item line.of) s.2.outcome in
      let text : reply_text log.version call.0 ≡ codes "nomem " ++ some.misheard.0.0 = call.2 ∙ some.misheard.0.1 in
      let short = refusal_of call.0 (sym (nomem_text log.version call.0) ∙ ap third_m text) in
      let numbered : numbered_on tree s.0 ≡ Some (1 + some.place, record { pass = s.0.lane; call = some.call.call; reply = call.0 }) = numbered_step tree s.0 (1 + some.place) some.call.call call.0 (s.2.tree ∙ on) call.1 in
      let there = number_of_item h.records (1 + some.place, record { pass = s.0.lane; call = some.call.call; reply = call.0 })
      (Contains-permutation (filter_map (numbered_on tree) steps) (enumerate_from 1 h.records) (1 + some.place, record { pass = s.0.lane; call = some.call.call; reply = call.0 })
      (IsPermutation-sym (enumerate_from 1 h.records) (filter_map (numbered_on tree) steps) (run.once tree h is)) (kept_in (numbered_on tree) steps line.place s.0 (1 + some.place, record { pass = s.0.lane; call = some.call.call; reply = call.0 }) s.1 numbered)) in
      let sized : h.rows ≡ rows = all_at (λ (y : History). y.rows ≡ rows) trees tree h run.sized is in
      let right = small_replies h (omega (arith, sized, few)) 0 h.opening h.records (all_at IsLegal trees tree h run.legal is) there.0 (record { pass = s.0.lane; call = some.call.call; reply = call.0 }) short.0 there.2 short.1 in
      let held : IsHeldRightly steps s.0 = all_at (IsHeldRightly steps) steps line.place s.0 run.holders s.1 in
      let own : numbered_on_told line.item.tree line.item ≡ Some item = subst (λ (n : ℕ). numbered_on_told n line.item ≡ Some item) (sym on) line.of in
      let readers : IfSome (holder_in s.0.outcome) (λ holder. IsReader told line.item.tree some.call holder.pass) = (holders_told log.version told steps line.item s.0 (1 + some.place) some.call are s.2 own).0 held in
      let holder : holder_in s.0.outcome ≡ short.0.by = ap holder_in call.1 ∙ ap holder_of short.1 in
      some.misheard.1 short.0 right.small (record {
        printed = sym call.2 ∙ ap (reply_text log.version) short.1;
        some = right.holder;
        by = subst (λ (n : ℕ). IfSome short.0.by (λ holder. IsReader told n some.call holder.pass)) on (subst (λ (o : Option Holder). IfSome o (λ holder. IsReader told line.item.tree some.call holder.pass)) holder readers);
      })

  -- so the tree can be gone through
  pub can_go : CannotGo log.version rows told tree h.kind h.opening → ⊥
  can_go (inl none) = let l = counted log rows t steps trees run told are few tree h is in none l.list l.are
  can_go (inr (inl misheard)) = no_misheard misheard
  can_go (inr (inr hindered)) = no_hinder hindered

-- One thread goes on: one more tree, one more step, one more phase.
use Rattle.mt_linearize.proofs.Prelude.{◌≡◌, ◌≢◌, ◌⊎◌, ℕ, ◌+◌, ◌<◌, ◌==◌, true, false, List, [], ◌∷◌, ◌++◌, Some, length, map, slice_get, arith, refl, sym, ap, ◌∙◌, subst, inl, inr, cases_Bool, eqb-true, eqb-false, eq-eqb, append-nil, length-map, All-push, filter_map-append, length-map-range_with_len, slice_get_within, slice_get-map, Range, Call, Query, Reply, answer, Record, History, last_map, Pass, IsSettled, with_records, Said, Outcome, Called, Looked, Counted, Step, Learns, Does, Leads, by_lane_on, outcomes_of, IsNext, informed, known_to_all, step_of_line, with_call, Tracked, IsPhase, IsPhaseOn, Counts}
use Rattle.mt_linearize.proofs.Informed.{informed_learns, informed_reads, informed_wrote, numbered_at, settled_next}
use Rattle.mt_linearize.proofs.LanePasses.{some_at}
use Rattle.mt_linearize.proofs.Leading.{leads_last, leads_push, learns_none}
use Rattle.mt_linearize.proofs.Lists.{same_some}

-- ---- the trees, as all know them

pub known_at : (passes : ℕ) (trees : List History) (tree : ℕ) (h : History) → slice_get trees tree ≡ Some h → slice_get (map (known_to_all passes) trees) tree ≡ Some (known_to_all passes h)
known_at passes trees tree h is = let e = slice_get-map (known_to_all passes) trees tree in rw is at e

pub record KnownAt (passes : ℕ) (trees : List History) (tree : ℕ) (t : Tracked) : Type 0 where
  pub h : History
  pub at : slice_get trees tree ≡ Some h
  pub is : t ≡ known_to_all passes h

pub known_of : (passes : ℕ) (trees : List History) (tree : ℕ) (t : Tracked) → slice_get (map (known_to_all passes) trees) tree ≡ Some t → KnownAt passes trees tree t
known_of passes trees tree t is =
    let f = some_at trees tree (omega (arith, slice_get_within (map (known_to_all passes) trees) tree t is, length-map trees (known_to_all passes))) in
    record { h = f.0; at = f.1; is = same_some t (known_to_all passes f.0) (sym is ∙ known_at passes trees tree f.0 f.1) }

passes_long : (passes : ℕ) (h g : History) → length (known_to_all passes h).passes ≡ length (known_to_all passes g).passes
passes_long passes h g = length-map-range_with_len (informed h.records) 0 passes ∙ sym (length-map-range_with_len (informed g.records) 0 passes)

-- ---- one more step

-- a step on this tree by this lane, or another one
outcomes_more : (tree lane : ℕ) (now : List Step) (s : Step) → s.tree ≡ tree → s.lane ≡ lane → outcomes_of tree lane (now ++ s ∷ []) ≡ outcomes_of tree lane now ++ s.outcome ∷ []
outcomes_more tree lane now s t l = let one : outcomes_of tree lane (s ∷ []) ≡ s.outcome ∷ [] = rw (eq-eqb s.tree tree t, eq-eqb s.lane lane l) refl in filter_map-append (by_lane_on tree lane) now (s ∷ []) ∙ ap (λ z. outcomes_of tree lane now ++ z) one

outcomes_same : (tree lane : ℕ) (now : List Step) (s : Step) → (s.tree ≡ tree → s.lane ≡ lane → ⊥) → outcomes_of tree lane (now ++ s ∷ []) ≡ outcomes_of tree lane now
outcomes_same tree lane now s apart = filter_map-append (by_lane_on tree lane) now (s ∷ []) ∙ (ap (λ z. outcomes_of tree lane now ++ z) (none (cases_Bool (s.tree == tree)) (cases_Bool (s.lane == lane))) ∙ append-nil (outcomes_of tree lane now))
  where
    none : ((s.tree == tree) ≡ true) ⊎ ((s.tree == tree) ≡ false) → ((s.lane == lane) ≡ true) ⊎ ((s.lane == lane) ≡ false) → outcomes_of tree lane (s ∷ []) ≡ []
    none (inl t) (inl l) = absurd (apart (eqb-true s.tree tree t) (eqb-true s.lane lane l))
    none (inl t) (inr f) = rw (t, f) refl
    none (inr f) l = rw f refl

-- what a step makes of the tree that it is on
pub record Makes (passes : ℕ) (opening : List History) (s : Step) (h h' : History) : Type 0 where
  pub lane : s.lane < passes
  pub tree : h' ≡ with_records h h'.records
  pub settled : IsSettled h' (known_to_all passes h').passes
  pub counts : (old : History) → slice_get opening s.tree ≡ Some old → Counts old s.outcome
  pub does : Does h (informed h.records s.lane) s.outcome (informed h'.records s.lane)
  pub others : (i : ℕ) → i ≢ s.lane → Learns (informed h.records i) (informed h'.records i)

-- the trees with one of them in the place of another
pub record Replaced (trees trees' : List History) (tree : ℕ) (h h' : History) : Type 0 where
  pub count : length trees' ≡ length trees
  pub was : slice_get trees tree ≡ Some h
  pub is : slice_get trees' tree ≡ Some h'
  pub rest : (other : ℕ) → other ≢ tree → slice_get trees' other ≡ slice_get trees other

-- of its tree a step reads but the kind, the rows and the opening map
does_of : (tree : History) (records : List Record) (p : Pass) (o : Outcome) (q : Pass) → Does (with_records tree records) p o q → Does tree p o q
does_of tree records p (Called number call reply) q (closed, w) = (
  closed,
  record {
    others = w.others;
    pass = w.pass;
    last = w.last;
    begun = w.begun;
    ended = w.ended;
    sound = record { own = w.sound.own; legal = w.sound.legal };
    by = w.by;
  },
)
does_of tree records p (Looked lo hi k query value) q r = record {
  grows = r.grows;
  true = r.true;
  from = r.from;
  floor = r.floor;
  before = r.before;
  lo_known = r.lo_known;
  hi_known = r.hi_known;
  sound = record { own = r.sound.own; legal = r.sound.legal };
}
does_of tree records p (Counted said ranges) q l = l

-- another tree goes no further
still_on : (tree : ℕ) (now : List Step) (s : Step) (b a : Tracked) → s.tree ≢ tree → IsPhaseOn tree now b a → IsPhaseOn tree (now ++ s ∷ []) b a
still_on tree now s b a apart ph = record {
  tree = ph.tree;
  count = ph.count;
  lanes = λ lane p q was is. subst (λ (z : List Outcome). Leads b.history p z q) (sym (outcomes_same tree lane now s (λ t l. apart t))) (ph.lanes lane p q was is);
  counts = All-push (λ (s : Step). s.tree ≡ tree → Counts b.history s.outcome) now s ph.counts (λ on. absurd (apart on));
  settled = ph.settled;
}

-- and the tree of the step goes on
goes_on : (passes : ℕ) (now : List Step) (opening : List History) (s : Step) (old h h' : History) → slice_get opening s.tree ≡ Some old → Makes passes opening s h h' → IsPhaseOn s.tree now (known_to_all passes old) (known_to_all passes h) → IsPhaseOn s.tree (now ++ s ∷ []) (known_to_all passes old) (known_to_all passes h')
goes_on passes now opening s old h h' at m ph = record {
  tree = m.tree ∙ ap (λ (z : History). with_records z h'.records) ph.tree;
  count = passes_long passes h' old;
  lanes = λ lane p q was is.
      let mid : Pass = informed h.records lane in
      let within : lane < length (known_to_all passes h).passes = omega (arith, slice_get_within (known_to_all passes h').passes lane q is, passes_long passes h h') in
      let there = some_at (known_to_all passes h).passes lane within in
      let stood : slice_get (known_to_all passes h).passes lane ≡ Some mid = there.1 ∙ ap Some (numbered_at (informed h.records) passes lane there.0 there.1) in
      let leads : Leads old p (outcomes_of s.tree lane now) mid = ph.lanes lane p mid was stood in
      let end : q ≡ informed h'.records lane = numbered_at (informed h'.records) passes lane q is in
      subst (λ (z : Pass). Leads old p (outcomes_of s.tree lane (now ++ s ∷ [])) z) (sym end) (lane_goes lane p leads (cases_Bool (lane == s.lane)));
  counts = All-push (λ (r : Step). r.tree ≡ s.tree → Counts old r.outcome) now s ph.counts (λ on. m.counts old at);
  settled = m.settled;
}
  where
    lane_goes : (lane : ℕ) (p : Pass) → Leads old p (outcomes_of s.tree lane now) (informed h.records lane) → ((lane == s.lane) ≡ true) ⊎ ((lane == s.lane) ≡ false) → Leads old p (outcomes_of s.tree lane (now ++ s ∷ [])) (informed h'.records lane)
    lane_goes lane p leads (inl t) =
        let same : lane ≡ s.lane = eqb-true lane s.lane t in
        let does : Does old (informed h.records lane) s.outcome (informed h'.records lane) = subst (λ (n : ℕ). Does old (informed h.records n) s.outcome (informed h'.records n)) (sym same) (does_of old h.records (informed h.records s.lane) s.outcome (informed h'.records s.lane) (subst (λ (z : History). Does z (informed h.records s.lane) s.outcome (informed h'.records s.lane)) ph.tree m.does)) in
        subst (λ (z : List Outcome). Leads old p z (informed h'.records lane)) (sym (outcomes_more s.tree lane now s refl (sym same))) (leads_push old p (outcomes_of s.tree lane now) (informed h.records lane) s.outcome (informed h'.records lane) leads does)
    lane_goes lane p leads (inr f) =
        let apart : lane ≢ s.lane = eqb-false lane s.lane f in
        subst (λ (z : List Outcome). Leads old p z (informed h'.records lane)) (sym (outcomes_same s.tree lane now s (λ t l. apart (sym l)))) (leads_last old p (outcomes_of s.tree lane now) (informed h.records lane) (informed h'.records lane) leads (m.others lane apart))

-- so does the phase
pub one_step : (passes phase : ℕ) (now : List Step) (opening trees trees' : List History) (s : Step) (h h' : History) → s.phase ≡ phase → Replaced trees trees' s.tree h h' → Makes passes opening s h h' → IsPhase passes phase now (map (known_to_all passes) opening) (map (known_to_all passes) trees) → IsPhase passes phase (now ++ s ∷ []) (map (known_to_all passes) opening) (map (known_to_all passes) trees')
one_step passes phase now opening trees trees' s h h' at x m ph =
    let all : List Tracked = map (known_to_all passes) opening in
    let among : s.tree < length all = omega (arith, slice_get_within trees s.tree h x.was, ph.count, length-map trees (known_to_all passes)) in
    record {
      count = length-map trees' (known_to_all passes) ∙ (x.count ∙ (sym (length-map trees (known_to_all passes)) ∙ ph.count));
      placed = All-push (λ (s : Step). (s.phase ≡ phase) × (s.lane < passes)) now s ph.placed (at, m.lane);
      named = All-push (λ (s : Step). s.tree < length all) now s ph.named among;
      each = λ tree b a was is. each_on tree b a was is (known_of passes opening tree b was) (known_of passes trees' tree a is) (cases_Bool (tree == s.tree));
    }
  where
    each_on : (tree : ℕ) (b a : Tracked) → slice_get (map (known_to_all passes) opening) tree ≡ Some b → slice_get (map (known_to_all passes) trees') tree ≡ Some a → KnownAt passes opening tree b → KnownAt passes trees' tree a → ((tree == s.tree) ≡ true) ⊎ ((tree == s.tree) ≡ false) → IsPhaseOn tree (now ++ s ∷ []) b a
    each_on tree b a was is f g (inl t) =
        let same : tree ≡ s.tree = eqb-true tree s.tree t in
        let new : g.h ≡ h' = same_some g.h h' (sym g.at ∙ (ap (slice_get trees') same ∙ x.is)) in
        let old_at : slice_get opening s.tree ≡ Some f.h = ap (slice_get opening) (sym same) ∙ f.at in
        let before : IsPhaseOn s.tree now (known_to_all passes f.h) (known_to_all passes h) = ph.each s.tree (known_to_all passes f.h) (known_to_all passes h) (known_at passes opening s.tree f.h old_at) (known_at passes trees s.tree h x.was) in
        let after : IsPhaseOn s.tree (now ++ s ∷ []) (known_to_all passes f.h) (known_to_all passes h') = goes_on passes now opening s f.h h h' old_at m before in
        rw (same, f.is, g.is, new) after
    each_on tree b a was is f g (inr e) =
        let apart : tree ≢ s.tree = eqb-false tree s.tree e in
        let stood : slice_get trees tree ≡ Some g.h = sym (x.rest tree apart) ∙ g.at in
        let before : IsPhaseOn tree now b (known_to_all passes g.h) = ph.each tree b (known_to_all passes g.h) was (known_at passes trees tree g.h stood) in
        rw g.is (still_on tree now s b (known_to_all passes g.h) (λ on. apart (sym on)) before)

-- ---- a call, a read, a count

abbrev record_by : ℕ → Call → Reply → Record
record_by lane call reply = record { pass = lane; call = call; reply = reply }

pub call_makes : (passes phase lane line tree : ℕ) (opening : List History) (h : History) (call : Call) (reply : Reply) (after : List Range) → lane < passes → IsSettled h (known_to_all passes h).passes → IsNext h (record_by lane call reply) after
    → Makes passes opening (step_of_line phase lane line tree (Called (length h.records + 1) call reply)) h (with_call h (record_by lane call reply))
call_makes passes phase lane line tree opening h call reply after among settled next = record {
  lane = among;
  tree = refl;
  settled = settled_next passes h (record_by lane call reply) after among settled next;
  counts = λ old at. tt;
  does = (refl, informed_wrote h lane call reply after settled.legal next);
  others = λ i apart. informed_learns h (record_by lane call reply) i (λ same. apart (sym same));
}

pub read_makes : (passes phase lane line tree : ℕ) (opening : List History) (h : History) (query : Query) → lane < passes → IsSettled h (known_to_all passes h).passes
    → Makes passes opening (step_of_line phase lane line tree (Looked (length h.records) (length h.records) (length h.records) query (answer (last_map h) query))) h h
read_makes passes phase lane line tree opening h query among settled = record {
  lane = among;
  tree = refl;
  settled = settled;
  counts = λ old at. tt;
  does = informed_reads h lane query settled.legal;
  others = λ i apart. learns_none (informed h.records i);
}

pub count_makes : (passes phase lane line tree : ℕ) (opening : List History) (h : History) (said : ℕ → Said) → lane < passes → IsSettled h (known_to_all passes h).passes → ((old : History) → slice_get opening tree ≡ Some old → old ≡ h)
    → Makes passes opening (step_of_line phase lane line tree (Counted said (last_map h))) h h
count_makes passes phase lane line tree opening h said among settled as_opened = record {
  lane = among;
  tree = refl;
  settled = settled;
  counts = λ old at. ap last_map (sym (as_opened old at));
  does = learns_none (informed h.records lane);
  others = λ i apart. learns_none (informed h.records i);
}

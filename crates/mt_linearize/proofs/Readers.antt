-- Where rows were held, the holder's lane has read.
use Rattle.mt_linearize.proofs.Prelude.{◌≡◌, ◌≢◌, ℕ, ◌+◌, ◌<◌, ◌≤◌, ◌==◌, ◌||◌, true, false, List, [], ◌∷◌, ◌++◌, Option, Some, None, length, get_or, slice_get, arith, refl, sym, ap, ◌∙◌, subst, inl, inr, length-append, IfSome, All, AllByRecursion, list_any, Contains, cases_Bool, le-leb, or_left, or_right, get_or_at, list_any-append, slice_get_within, Holder, Record, History, Pass, NamesReader, IsSettled, holder_of, Outcome, Called, Looked, Counted, Step, holder_in, is_read, is_read_by, IsHeldRightly, Does, Leads, outcomes_of, Tracked, IsPhaseOn, IsRecordAt, StandsInHistory, On, OwnReads, reads_on}
use Rattle.mt_linearize.proofs.Knowing.{does_onward}
use Rattle.mt_linearize.proofs.LanePasses.{Lane, lane_in}
use Rattle.mt_linearize.proofs.EachLane.{each_on}
use Rattle.mt_linearize.proofs.Lists.{same_some}

-- without a read a pass opens no section
leads_open : (tree : History) (p : Pass) (os : List Outcome) (q : Pass) → Leads tree p os q → list_any is_read os ≡ false → q.opened ≡ p.opened
leads_open tree p [] q l none = l.opened
leads_open tree p (Called number call reply ∷ os) q (m, n, learns, does, leads) none = leads_open tree n os q leads none ∙ (ap (λ (z : Pass). z.opened) does.1.pass ∙ learns.opened)
leads_open tree p (Looked lo hi k query value ∷ os) q l none = cc
leads_open tree p (Counted said ranges ∷ os) q (m, n, learns, does, leads) none = leads_open tree n os q leads none ∙ (does.opened ∙ learns.opened)

looks_are_reads : (number lane : ℕ) (steps : List Step) → list_any is_read (outcomes_of number lane steps) ≡ list_any (reads_on number lane) steps
looks_are_reads number lane [] = refl
looks_are_reads number lane (s ∷ steps) = elim (cases_Bool (s.tree == number)) [
  | inl t ↦ elim (cases_Bool (s.lane == lane)) [
    | inl l ↦ rw (t, l) (ap (λ z. is_read s.outcome || z) (looks_are_reads number lane steps))
    | inr f ↦ rw (t, f) (looks_are_reads number lane steps)
  ]
  | inr f ↦ rw f (looks_are_reads number lane steps)
]

pub phase_readers : (number : ℕ) (earlier steps : List Step) (b a : Tracked) → IsSettled b.history b.passes → OwnReads number earlier b.passes → IsPhaseOn number steps b a → OwnReads number (earlier ++ steps) a.passes
phase_readers number earlier steps b a start own ph lane epoch q is has =
    let x : Lane number steps b a lane = lane_in number steps b a lane start ph (omega (arith, ph.count, slice_get_within a.passes lane q is)) in
    list_any-append (reads_on number lane) earlier steps ∙ elim (cases_Bool (list_any (reads_on number lane) steps)) [
      | inl some ↦ or_right (list_any (reads_on number lane) earlier) (list_any (reads_on number lane) steps) some
      | inr none ↦
          let opened : x.q.opened ≡ x.p.opened = leads_open b.history x.p (outcomes_of number lane steps) x.q x.leads (looks_are_reads number lane steps ∙ none) in
          let same : q.opened ≡ x.p.opened = ap (λ (z : Pass). z.opened) (same_some q x.q (sym is ∙ x.is)) ∙ opened in
          or_left (list_any (reads_on number lane) earlier) (list_any (reads_on number lane) steps) (own lane epoch x.p x.was (subst (λ (z : List ℕ). Contains z epoch) same has))
    ]

-- the holder that a call is told of is another pass
abbrev pub OtherThan : ℕ → Outcome → Type 0
OtherThan lane o = IfSome (holder_in o) (λ holder. holder.pass ≢ lane)

does_name : (tree : History) (lane : ℕ) (p : Pass) (o : Outcome) (q : Pass) → p.number ≡ lane → Does tree p o q → OtherThan lane o
does_name tree lane p (Called number call reply) q e (closed, d) = subst (λ (n : ℕ). IfSome (holder_of reply) (λ holder. holder.pass ≢ n)) e (d.by closed)
does_name tree lane p (Looked lo hi k query value) q e d = tt
does_name tree lane p (Counted said ranges) q e d = tt

leads_name : (tree : History) (lane : ℕ) (p : Pass) (os : List Outcome) (q : Pass) → p.number ≡ lane → Leads tree p os q → AllByRecursion (OtherThan lane) os
leads_name tree lane p [] q e l = tt
leads_name tree lane p (o ∷ os) q e (m, n, learns, does, leads) =
    let there : m.number ≡ lane = learns.grows.number ∙ e in
    (does_name tree lane m o n there does, leads_name tree lane n os q ((does_onward tree m o n does).number ∙ there) leads)

pub phase_names : (passes number : ℕ) (steps : List Step) (b a : Tracked) → length b.passes ≡ passes → IsSettled b.history b.passes → AllByRecursion (λ (s : Step). s.lane < passes) steps → IsPhaseOn number steps b a → AllByRecursion (On number (λ (s : Step). OtherThan s.lane s.outcome)) steps
phase_names passes number steps b a count start within ph =
    each_on OtherThan number passes steps within (λ lane l.
    let x : Lane number steps b a lane = lane_in number steps b a lane start ph (omega (arith, count)) in
    leads_name b.history lane x.p (outcomes_of number lane steps) x.q x.numbered x.leads)

-- a read on the tree, in no later phase than this step's
reads_in_time : (number pass : ℕ) (s : Step) (steps : List Step) → s.tree ≡ number → AllByRecursion (λ (r : Step). r.phase ≤ s.phase) steps → list_any (reads_on number pass) steps ≡ true → list_any (is_read_by pass s) steps ≡ true
reads_in_time number pass s [] on within some = some
reads_in_time number pass s (r ∷ steps) on within some = elim (cases_Bool (reads_on number pass r)) [
  | inl t ↦ or_left (is_read_by pass s r) (list_any (is_read_by pass s) steps) (same_read t)
  | inr f ↦ or_right (is_read_by pass s r) (list_any (is_read_by pass s) steps) (reads_in_time number pass s steps on within.1 (rw f at some))
]
  where
    same_read : reads_on number pass r ≡ true → is_read_by pass s r ≡ true
    same_read t = elim (cases_Bool (r.tree == number)) [
      | inl a ↦ elim (cases_Bool (r.lane == pass)) [
        | inl b ↦ let c : is_read r.outcome ≡ true = rw (a, b) at t in rw (on, a, b, c, le-leb r.phase s.phase within.0) refl
        | inr b ↦ let c : false ≡ true = rw (a, b) at t in cc
      ]
      | inr a ↦ let c : false ≡ true = rw a at t in cc
    ]

-- what holds of each record holds of the one at a number
stands_among : (P : Record → Type 0) (records : List Record) (number : ℕ) (r : Record) → All P records → IsRecordAt records number r → P r
stands_among P records number r h s =
    let long : length records ≡ length s.front + length (r ∷ s.rest) = ap length s.is ∙ length-append s.front (r ∷ s.rest) in
    let here : get_or records (length s.front) r ≡ r = ap (λ (z : List Record). get_or z (length s.front) r) s.is ∙ get_or_at s.front r s.rest r (length s.front) refl in
    subst P here (h (length s.front) r (omega arith))

held_by : (number : ℕ) (s : Step) (steps : List Step) (passes : List Pass) (by : Option Holder) → s.tree ≡ number → AllByRecursion (λ (r : Step). r.phase ≤ s.phase) steps → OwnReads number steps passes → IfSome by (λ holder. holder.pass ≢ s.lane) → IfSome by (λ holder. (q : Pass) × (slice_get passes holder.pass ≡ Some q) × Contains q.opened holder.epoch)
    → IfSome by (λ holder. (holder.pass ≢ s.lane) × (list_any (is_read_by holder.pass s) steps ≡ true))
held_by number s steps passes None on within own other reader = tt
held_by number s steps passes (Some holder) on within own other reader = (other, reads_in_time number holder.pass s steps on within (own holder.pass holder.epoch reader.0 reader.1 reader.2))

pub step_held : (number : ℕ) (s : Step) (o : Outcome) (steps : List Step) (t : Tracked) → s.tree ≡ number → AllByRecursion (λ (r : Step). r.phase ≤ s.phase) steps → OwnReads number steps t.passes → IsSettled t.history t.passes → OtherThan s.lane o → StandsInHistory t.history s.lane o
    → IfSome (holder_in o) (λ holder. (holder.pass ≢ s.lane) × (list_any (is_read_by holder.pass s) steps ≡ true))
step_held number s (Called n call reply) steps t on within own settled other holds = held_by number s steps t.passes (holder_of reply) on within own other (stands_among (λ (r : Record). NamesReader t.passes r.reply) t.history.records n (record { pass = s.lane; call = call; reply = reply }) settled.by holds)
step_held number s (Looked lo hi k query value) steps t on within own settled other holds = tt
step_held number s (Counted said ranges) steps t on within own settled other holds = tt

-- more steps take no reader away
still_some : (s : Step) (steps more : List Step) (by : Option Holder) → IfSome by (λ holder. (holder.pass ≢ s.lane) × (list_any (is_read_by holder.pass s) steps ≡ true)) → IfSome by (λ holder. (holder.pass ≢ s.lane) × (list_any (is_read_by holder.pass s) (steps ++ more) ≡ true))
still_some s steps more None h = tt
still_some s steps more (Some holder) h = (h.0, list_any-append (is_read_by holder.pass s) steps more ∙ or_left (list_any (is_read_by holder.pass s) steps) (list_any (is_read_by holder.pass s) more) h.1)

pub still_held : (s : Step) (steps more : List Step) → IsHeldRightly steps s → IsHeldRightly (steps ++ more) s
still_held s steps more h = still_some s steps more (holder_in s.outcome) h

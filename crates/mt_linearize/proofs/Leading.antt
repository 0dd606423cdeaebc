-- A lane's pass goes on: one stretch behind another, and one step behind others.
use Rattle.mt_linearize.proofs.Prelude.{◌≡◌, ℕ, List, [], ◌∷◌, ◌++◌, Option, Some, length, slice_get, arith, refl, ap, ◌∙◌, All, slice_get_within, Record, History, Pass, Learned, Saw, Settled, with_records, begins_none, grows_none, grows_on, learned_grows, saw_grows, Outcome, Step, Learns, Does, Leads, outcomes_of, IsPhaseOn, Counts}
use Rattle.mt_linearize.proofs.LanePasses.{some_at}

pub learns_none : (p : Pass) → Learns p p
learns_none p = record { grows = grows_none p; opened = refl }

pub learns_on : (p q r : Pass) → Learns p q → Learns q r → Learns p r
learns_on p q r l m = record { grows = grows_on p q r l.grows m.grows; opened = m.opened ∙ l.opened }

-- by the lock, by a note, and where its section is opened no more
pub saw_learns : (tree : History) (p q : Pass) → Saw tree p q → Learns p q
saw_learns tree p q s = record { grows = saw_grows tree p q s; opened = ap (λ (z : Pass). z.opened) s.pass }

pub learned_learns : (tree : History) (p : Pass) (told : List Record) (q : Pass) → Learned tree p told q → Learns p q
learned_learns tree p told q l = record { grows = learned_grows tree p told q l; opened = ap (λ (z : Pass). z.opened) l.pass }

pub stands_otherwise : (p : Pass) (standing : Option ℕ) → Learns p (record p { standing = standing })
stands_otherwise p standing = record { grows = record { number = refl; seen = begins_none p.seen; mine = refl; opened = begins_none p.opened; begun = omega arith; ended = omega arith }; opened = refl }

-- what it learned before its steps, and behind them
pub leads_first : (tree : History) (p q : Pass) (os : List Outcome) (r : Pass) → Learns p q → Leads tree q os r → Leads tree p os r
leads_first tree p q [] r l m = learns_on p q r l m
leads_first tree p q (o ∷ os) r l (m, n, learns, does, leads) = (m, n, learns_on p q m l learns, does, leads)

pub leads_last : (tree : History) (p : Pass) (os : List Outcome) (q r : Pass) → Leads tree p os q → Learns q r → Leads tree p os r
leads_last tree p [] q r l m = learns_on p q r l m
leads_last tree p (o ∷ os) q r (m, n, learns, does, leads) l = (m, n, learns, does, leads_last tree n os q r leads l)

-- more steps, and one step more
pub leads_on : (tree : History) (p : Pass) (os : List Outcome) (q : Pass) (others : List Outcome) (r : Pass) → Leads tree p os q → Leads tree q others r → Leads tree p (os ++ others) r
leads_on tree p [] q others r l m = leads_first tree p q others r l m
leads_on tree p (o ∷ os) q others r (m, n, learns, does, leads) l = (m, n, learns, does, leads_on tree n os q others r leads l)

pub leads_one : (tree : History) (p : Pass) (o : Outcome) (q : Pass) → Does tree p o q → Leads tree p (o ∷ []) q
leads_one tree p o q does = (p, q, learns_none p, does, learns_none q)

pub leads_push : (tree : History) (p : Pass) (os : List Outcome) (q : Pass) (o : Outcome) (r : Pass) → Leads tree p os q → Does tree q o r → Leads tree p (os ++ o ∷ []) r
leads_push tree p os q o r l does = leads_on tree p os q (o ∷ []) r l (leads_one tree q o r does)

-- where the lanes have gone through their steps, and then all are settled
pub phase_settled : (number : ℕ) (steps : List Step) (old new : History) (before between after : List Pass) → new ≡ with_records old new.records → length between ≡ length before
    → ((lane : ℕ) (p m : Pass) → slice_get before lane ≡ Some p → slice_get between lane ≡ Some m → Leads old p (outcomes_of number lane steps) m) → All (λ (s : Step). s.tree ≡ number → Counts old s.outcome) steps → Settled new between after
    → IsPhaseOn number steps (record { history = old; passes = before }) (record { history = new; passes = after })
phase_settled number steps old new before between after tree count lanes counts settled = record {
  tree = tree;
  count = settled.count ∙ count;
  lanes = λ lane p q was is.
      let f = some_at between lane (omega (arith, slice_get_within before lane p was, count)) in
      leads_last old p (outcomes_of number lane steps) f.0 q (lanes lane p f.0 was f.1) (saw_learns new f.0 q (settled.each lane f.0 q f.1 is));
  counts = counts;
  settled = settled.settled;
}

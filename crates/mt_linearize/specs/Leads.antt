-- What a lane's pass (a thread's handle) on a tree goes through from one moment to another: the lane's steps on this tree, in
-- order.
-- Source: this project's own.
use Rattle.std.specs.Prelude.{◌≡◌, ℕ, ◌==◌, List, [], ◌∷◌, Option, Some, None, filter_map, if◌then◌else◌}
use Rattle.mt_linearize.specs.Prelude.{History, Pass, Grows, Wrote, Read, Outcome, Called, Looked, Counted, Step}

-- The handle learned of others' calls, or its section was closed. It made no call and opened no section.
pub record Learns (p q : Pass) : Type 0 where
  pub grows : Grows p q
  pub opened : q.opened ≡ p.opened

-- What a step does to its lane's handle: a call, which is made while the handle has no open section, or a read. Counts are made
-- by the program itself, so a lane's handle at most learns of them.
abbrev pub Does : History → Pass → Outcome → Pass → Type 0
Does tree p (Called number call reply) q = (p.standing ≡ None) × Wrote tree p number call reply q
Does tree p (Looked lo hi k query value) q = Read tree p lo hi k query value q
Does tree p (Counted said ranges) q = Learns p q

-- From the handle p these steps, in order, lead to the handle q. Before and after each step it may learn of others' calls.
abbrev pub Leads : History → Pass → List Outcome → Pass → Type 0
Leads tree p [] q = Learns p q
Leads tree p (o ∷ outcomes) q = (m n : Pass) × Learns p m × Does tree m o n × Leads tree n outcomes q

-- the steps of one lane on one tree
abbrev pub by_lane_on : ℕ → ℕ → Step → Option Outcome
by_lane_on tree lane s = if s.tree == tree then (if s.lane == lane then Some s.outcome else None) else None

abbrev pub outcomes_of : ℕ → ℕ → List Step → List Outcome
outcomes_of tree lane steps = filter_map (by_lane_on tree lane) steps

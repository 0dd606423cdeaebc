-- The steps of a run, put together from what a text tells, from the histories of its trees and from numbers for its
-- reads; and when what is told is right.
use Rattle.mt_verify.proofs.Prelude.{◌≡◌, ℕ, ◌+◌, ◌-◌, ◌<◌, ◌≤◌, ◌==◌, true, List, [], ◌∷◌, Option, Some, None, length, option_map, slice_get, unwrap_or, if◌then◌else◌, decimal, AllByRecursion, Reply, answer, Record, History, map_at, Outcome, Called, Looked, Counted, Step, shown, reply_text, ToldLine, What, Wrote, Got, Copied, Lawful, ToldRead, IsTrueOn, calls_of_phases_before, number_for, numbers_behind}
use Rattle.mt_base.specs.declared.kinds.Kind.TheVariants as kinds
use Rattle.mt_base.specs.declared.replies.Reply.TheVariants as replies
use Rattle.mt_log.specs.declared.transcripts.Said.TheVariants as said

-- what the call of this number was answered
abbrev pub reply_in : History → ℕ → Reply
reply_in h number = unwrap_or (option_map (λ r. r.reply) (slice_get h.records (number - 1))) replies.Ok

-- What is told, filled in from its tree's history: the reply; what is true after k calls; and the ranges after the
-- calls of earlier phases, which are so many.
abbrev pub outcome_in : History → ℕ → ℕ → What → Outcome
outcome_in h before k (Wrote number call reply) = Called number call (reply_in h number)
outcome_in h before k (Got lo hi query told) = Looked lo hi k query (answer (map_at h k) query)
outcome_in h before k (Copied count) = Counted said.Copied (map_at h before)
outcome_in h before k (Lawful count) = Counted said.Lawful (map_at h before)

-- the history of a tree, among those of all
abbrev pub history_in : List History → ℕ → History
history_in trees tree =
    unwrap_or (slice_get trees tree) (record { kind = kinds.Range; rows = 0; opening = []; records = [] })

abbrev pub step_in : List History → List ToldLine → ℕ → ToldLine → Step
step_in trees all k t =
    record {
      line = t.line;
      lane = t.lane;
      phase = t.phase;
      tree = t.tree;
      outcome = outcome_in (history_in trees t.tree) (calls_of_phases_before all t.tree t.phase) k t.what;
    }

-- the steps that are told so, where these are the numbers of the reads
abbrev pub filled : List History → List ToldLine → List ToldLine → List ℕ → List Step
filled trees all [] points = []
filled trees all (t ∷ told) points =
    step_in trees all (number_for t.what points) t ∷ filled trees all told (numbers_behind t.what points)

-- a call of a tree with its number, as it is told, with its reply of the history
abbrev pub numbered_by : History → ℕ → What → Option (ℕ × Record)
numbered_by h lane (Wrote number call reply) =
    Some (number, record { pass = lane; call = call; reply = reply_in h number })
numbered_by h lane (Got lo hi query told) = None
numbered_by h lane (Copied count) = None
numbered_by h lane (Lawful count) = None

abbrev pub numbered_in : History → ℕ → ToldLine → Option (ℕ × Record)
numbered_in h tree t = if t.tree == tree then numbered_by h t.lane t.what else None

-- The reply is printed so; the read's window ends in the history, and what it was told is what is true after k calls,
-- which lie in the window; the ranges after the calls of earlier phases are so many.
abbrev pub IsRight : ℕ → History → ℕ → ℕ → What → Type 0
IsRight version h before k (Wrote number call reply) = reply_text version (reply_in h number) ≡ reply.now
IsRight version h before k (Got lo hi query told) = (lo ≤ k) × (k ≤ hi) × (hi ≤ length h.records)
    × (shown query (answer (map_at h k) query) ≡ told)
IsRight version h before k (Copied count) = decimal (length (map_at h before)) ≡ count.now
IsRight version h before k (Lawful count) = decimal (length (map_at h before)) ≡ count.now

-- the read has a number
abbrev pub HasNumber : What → List ℕ → Type 0
HasNumber (Got lo hi query told) [] = ⊥
HasNumber what points = Unit {0}

-- these lines are right, with just these numbers for their reads
abbrev pub AreRight : ℕ → List History → List ToldLine → List ToldLine → List ℕ → Type 0
AreRight version trees all [] points = points ≡ []
AreRight version trees all (t ∷ told) points = HasNumber t.what points × (t.tree < length trees)
    × IsRight version (history_in trees t.tree) (calls_of_phases_before all t.tree t.phase) (number_for t.what points) t.what
    × AreRight version trees all told (numbers_behind t.what points)

-- a read of the history: its window ends in it and holds the number, at which it is true
pub record IsReadOn (h : History) (read : ToldRead × ℕ) : Type 0 where
  pub from : read.0.lo ≤ read.1
  pub to : read.1 ≤ read.0.hi
  pub within : read.0.hi ≤ length h.records
  pub true : IsTrueOn (map_at h read.1) read.0

-- of two reads of a lane the later has no lower number, and its window begins no more than one below that of the
-- earlier
pub record ReadsRise (r s : ToldRead × ℕ) : Type 0 where
  pub rise : r.1 ≤ s.1
  pub floor : r.1 ≤ s.0.lo + 1

-- each stands so to each that comes later
abbrev pub EachLater : {X : Type 0} → (X → X → Type 0) → List X → Type 0
EachLater R [] = Unit {0}
EachLater R (x ∷ xs) = AllByRecursion (R x) xs × EachLater R xs

-- of two reads on a tree the one of a lower phase ends where the other one begins, or below
abbrev pub EndsIn : What → What → Type 0
EndsIn (Got lo hi query told) (Got lo' hi' query' told') = hi ≤ lo'
EndsIn (Got lo hi query told) (Wrote number call reply) = Unit {0}
EndsIn (Got lo hi query told) (Copied count) = Unit {0}
EndsIn (Got lo hi query told) (Lawful count) = Unit {0}
EndsIn (Wrote number call reply) what = Unit {0}
EndsIn (Copied count) what = Unit {0}
EndsIn (Lawful count) what = Unit {0}

abbrev pub EndsBefore : ToldLine → ToldLine → Type 0
EndsBefore s t = s.tree ≡ t.tree → s.phase < t.phase → EndsIn s.what t.what

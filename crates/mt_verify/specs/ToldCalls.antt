-- The calls on a tree that a text reports.
-- Source: this project's own.
use Rattle.std.specs.Prelude.{◌≡◌, ◌⊎◌, ℕ, ◌+◌, ◌==◌, ◌<◌, List, [], ◌∷◌, Option, Some, None, IsPermutation, count_by, length, if◌then◌else◌}
use Rattle.std.specs.List.{enumerate_from, filter_map}
use Rattle.mt_verify.specs.Prelude.{Record, reply_text, ToldLine, What, Wrote, Got, Copied, Lawful}
use Rattle.mt_verify.specs.declared.calls.Numbered.{Numbered}

-- a call, by its number
abbrev pub numbered_of : ℕ → ℕ → What → Option (ℕ × Numbered)
numbered_of lane phase (Wrote number call reply) =
    Some (number, record { lane = lane; phase = phase; call = call; reply = reply })
numbered_of lane phase (Got lo hi query answer) = None
numbered_of lane phase (Copied count) = None
numbered_of lane phase (Lawful count) = None

-- where it is one on this tree
abbrev pub numbered_on_told : ℕ → ToldLine → Option (ℕ × Numbered)
numbered_on_told tree t = if t.tree == tree then numbered_of t.lane t.phase t.what else None

abbrev pub calls_told : ℕ → List ToldLine → List (ℕ × Numbered)
calls_told tree told = filter_map (numbered_on_told tree) told

-- these are the calls on a tree in the order of their numbers, which are 1 and on, each once
abbrev pub AreCallsOf : ℕ → List ToldLine → List Numbered → Type 0
AreCallsOf tree told list = IsPermutation (enumerate_from 1 list) (calls_told tree told)

-- ---- a table of places, the first of which has this number

-- the calls in the places that are filled, with their numbers
abbrev pub filled_from : {X : Type 0} → ℕ → List (Option X) → List (ℕ × X)
filled_from n [] = []
filled_from n (None ∷ places) = filled_from (n + 1) places
filled_from n (Some call ∷ places) = (n, call) ∷ filled_from (n + 1) places

-- how many of these have a number
abbrev pub times_numbered : {X : Type 0} → ℕ → List (ℕ × X) → ℕ
times_numbered number calls = count_by (λ e. e.0 == number) calls

-- there is no place for the number, or it has a call already
abbrev pub HasNoPlace : {X : Type 0} → ℕ → List (Option X) → Type 0
HasNoPlace number places = (number ≡ 0) ⊎ ((length places < number) ⊎ (0 < times_numbered number (filled_from 1 places)))

-- ---- the calls of the steps that a text reports

-- the record has the lane and the call that the line reports, and its reply prints as in the line
pub record IsRecordTold (version : ℕ) (e : ℕ × Numbered) (r : ℕ × Record) : Type 0 where
  pub number : r.0 ≡ e.0
  pub lane : r.1.pass ≡ e.1.lane
  pub call : r.1.call ≡ e.1.call
  pub reply : reply_text version r.1.reply ≡ e.1.reply.now

-- these are, one by one
abbrev pub AreRecordsTold : ℕ → List (ℕ × Numbered) → List (ℕ × Record) → Type 0
AreRecordsTold version [] [] = Unit {0}
AreRecordsTold version [] (r ∷ records) = ⊥
AreRecordsTold version (e ∷ calls) [] = ⊥
AreRecordsTold version (e ∷ calls) (r ∷ records) = IsRecordTold version e r × AreRecordsTold version calls records

-- The points of a transcript, the least of them, and when a verdict on a text is right.
-- Source: this project's own.
use Rattle.std.specs.Prelude.{◌≡◌, ℕ, ◌<◌, ◌≤◌, Bool, true, List, [], ◌∷◌, Option, Some, None, length, slice_get, option_map, unwrap_or, IsPermutation}
use Rattle.std.specs.List.{enumerate_from, filter_map}
use Rattle.mt_verify.specs.Prelude.{Call, answer, Record, History, map_at, Log, Transcript, Outcome, Called, Looked, Counted, Step, IsRun, IsRunBy, Opens, Knows, is_read, numbered_on, shown, text_of, Declared, CopyOf, trees_of}
use Rattle.mt_verify.specs.Histories.{is_nomem}
use Rattle.mt_verify.specs.declared.verdicts.Verdict.{Verdict}
use Rattle.mt_verify.specs.declared.verdicts.Verdict.TheVariants.{Yes, No}

-- ---- a point list

-- the number at which a read is true
abbrev pub point_of : Outcome → Option ℕ
point_of (Called number call reply) = None
point_of (Looked lo hi k query value) = Some k
point_of (Counted said ranges) = None

abbrev pub points_of : List Step → List ℕ
points_of steps = filter_map (λ s. point_of s.outcome) steps

-- the numbers (versions) of the reads of a transcript, in order, in one run with this transcript
pub record IsPointList (log : Log) (rows : ℕ) (t : Transcript) (points : List ℕ) : Type 0 where
  pub steps : List Step
  pub trees : List History
  pub run : IsRunBy log rows t steps trees
  pub list : points ≡ points_of steps

-- each is at most the one at its place
abbrev pub AreUpTo : List ℕ → List ℕ → Type 0
AreUpTo [] [] = Unit {0}
AreUpTo [] (b ∷ others) = ⊥
AreUpTo (a ∷ points) [] = ⊥
AreUpTo (a ∷ points) (b ∷ others) = (a ≤ b) × AreUpTo points others

-- ---- a verdict

-- The text is that of a transcript of a run, with these points (versions of the reads). Each is at most the point at its place
-- in every point list of every transcript that has this text.
pub record AreLeastPoints (log : Log) (rows : ℕ) (text points : List ℕ) : Type 0 where
  pub transcript : Transcript
  pub printed : text ≡ text_of transcript
  pub told : IsPointList log rows transcript points
  pub least : (t : Transcript) (others : List ℕ) → text ≡ text_of t → IsPointList log rows t others
      → AreUpTo points others

abbrev pub IsVerdict : Log → ℕ → List ℕ → Verdict → Type 0
IsVerdict log rows text (Yes points) = AreLeastPoints log rows text points
IsVerdict log rows text No = (t : Transcript) → text ≡ text_of t → IsRun log rows t → ⊥

-- ---- the reads of a run, by the places of its steps

abbrev pub lo_of : Outcome → ℕ
lo_of (Called number call reply) = 0
lo_of (Looked lo hi k query value) = lo
lo_of (Counted said ranges) = 0

abbrev pub hi_of : Outcome → ℕ
hi_of (Called number call reply) = 0
hi_of (Looked lo hi k query value) = hi
hi_of (Counted said ranges) = 0

abbrev pub read_number : Outcome → ℕ
read_number (Called number call reply) = 0
read_number (Looked lo hi k query value) = k
read_number (Counted said ranges) = 0

-- the value of the step at a place, and 0 if there is no step
abbrev pub at_place : (Outcome → ℕ) → List Step → ℕ → ℕ
at_place f steps i = unwrap_or (option_map (λ s. f s.outcome) (slice_get steps i)) 0

-- the answer in the transcript is that of the map after m calls
abbrev pub TellsAt : History → ℕ → Outcome → Type 0
TellsAt h m (Called number call reply) = Unit {0}
TellsAt h m (Looked lo hi k query value) = (m ≤ length h.records)
    × (shown query (answer (map_at h m) query) ≡ shown query value)
TellsAt h m (Counted said ranges) = Unit {0}

-- the read at a place is true after m calls
abbrev pub IsTrueAt : List Step → List History → ℕ → ℕ → Type 0
IsTrueAt steps trees i m = (s : Step) (h : History) → slice_get steps i ≡ Some s → slice_get trees s.tree ≡ Some h
    → TellsAt h m s.outcome

-- the read at the place i knows of the read at the place j
pub record KnowsAt (steps : List Step) (i j : ℕ) : Type 0 where
  pub later : Step
  pub earlier : Step
  pub at : slice_get steps i ≡ Some later
  pub before : slice_get steps j ≡ Some earlier
  pub reads : is_read later.outcome ≡ true
  pub read_before : is_read earlier.outcome ≡ true
  pub tree : earlier.tree ≡ later.tree
  pub knows : Knows earlier later

-- The reads of two runs are alike: they have the same windows at the same places, are true at the same numbers and know
-- of the same reads. Runs of one log that print one text are.
pub record AreAlike (steps : List Step) (trees : List History) (steps' : List Step)
    (trees' : List History) : Type 0 where
  pub count : length steps' ≡ length steps
  pub lo : (i : ℕ) → at_place lo_of steps' i ≡ at_place lo_of steps i
  pub hi : (i : ℕ) → at_place hi_of steps' i ≡ at_place hi_of steps i
  pub truth : (i m : ℕ) → IsTrueAt steps' trees' i m → IsTrueAt steps trees i m
  pub knows : (i j : ℕ) → KnowsAt steps i j → KnowsAt steps' i j

-- ---- histories that go alike

-- two histories with the same calls, of which the same were refused for lack of nodes
abbrev pub GoAlike : List Record → List Record → Type 0
GoAlike [] [] = Unit {0}
GoAlike [] (s ∷ others) = ⊥
GoAlike (r ∷ records) [] = ⊥
GoAlike (r ∷ records) (s ∷ others) = (r.call ≡ s.call) × (is_nomem r.reply ≡ is_nomem s.reply) × GoAlike records others

-- a record's part in the way of the map: its call, and whether that was refused for lack of nodes
abbrev pub map_part : Record → Call × Bool
map_part r = (r.call, is_nomem r.reply)

abbrev pub numbered_part : ℕ × Record → ℕ × (Call × Bool)
numbered_part e = (e.0, map_part e.1)

-- ---- runs with the same text

-- Two outcomes have the same text. What is not printed may differ: the version of a read and the rest of a loaded range, who
-- held nodes back, and which ranges were counted.
abbrev pub OutcomesAlike : Outcome → Outcome → Type 0
OutcomesAlike (Called n c r) (Called n' c' r') = (n ≡ n') × (c ≡ c') × (is_nomem r ≡ is_nomem r')
OutcomesAlike (Called n c r) (Looked lo' hi' k' q' v') = ⊥
OutcomesAlike (Called n c r) (Counted said' ranges') = ⊥
OutcomesAlike (Looked lo hi k q v) (Called n' c' r') = ⊥
OutcomesAlike (Looked lo hi k q v) (Looked lo' hi' k' q' v') = (lo ≡ lo') × (hi ≡ hi') × (q ≡ q')
    × (shown q v ≡ shown q' v')
OutcomesAlike (Looked lo hi k q v) (Counted said' ranges') = ⊥
OutcomesAlike (Counted said ranges) (Called n' c' r') = ⊥
OutcomesAlike (Counted said ranges) (Looked lo' hi' k' q' v') = ⊥
OutcomesAlike (Counted said ranges) (Counted said' ranges') = Unit {0}

pub record StepsAlike (s s' : Step) : Type 0 where
  pub lane : s.lane ≡ s'.lane
  pub phase : s.phase ≡ s'.phase
  pub tree : s.tree ≡ s'.tree
  pub outcome : OutcomesAlike s.outcome s'.outcome

abbrev pub AreToldAlike : List Step → List Step → Type 0
AreToldAlike [] [] = Unit {0}
AreToldAlike [] (s' ∷ steps') = ⊥
AreToldAlike (s ∷ steps) [] = ⊥
AreToldAlike (s ∷ steps) (s' ∷ steps') = StepsAlike s s' × AreToldAlike steps steps'

-- a copy's source is declared before it, as in every log that can be read
abbrev pub CopiesEarlier : List Declared → Type 0
CopiesEarlier declared = (tree source phase : ℕ) (d : Declared) → slice_get declared tree ≡ Some d
    → d.opening ≡ CopyOf source phase → source < tree

-- Each declared tree has a history, which opens as the log says and has the tree's calls at their numbers. This is what a run
-- knows of its trees before their calls and reads are checked.
pub record HaveHistories (log : Log) (steps : List Step) (trees : List History) : Type 0 where
  pub count : length trees ≡ length (trees_of log.lines)
  pub opened : (tree : ℕ) (d : Declared) (h : History) → slice_get (trees_of log.lines) tree ≡ Some d
      → slice_get trees tree ≡ Some h → Opens steps trees d h
  pub once : (tree : ℕ) (h : History) → slice_get trees tree ≡ Some h
      → IsPermutation (enumerate_from 1 h.records) (filter_map (numbered_on tree) steps)

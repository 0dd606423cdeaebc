-- What a judgment says of a text.
-- Source: this project's own.
use Rattle.std.specs.Prelude.{◌≡◌, ◌⊎◌, ℕ, ◌+◌, ◌<◌, nat_lt, Bool, true, false, List, ◌++◌, Some, None, Ok, codes, length, take, filter}
use Rattle.mt_judge.specs.Prelude.{Log, log_of, ToldLine, What, Wrote, Got, Copied, Lawful, IsToldBy, TellsNone, Yes, No, is_got, is_wrote, IsVerdict}
use Rattle.mt_judge.specs.Faults.{KeepsOrder, is_of_form}
use Rattle.mt_judge.specs.Orders.{IsInOrder}
use Rattle.mt_judge.specs.declared.judging.Found.{Found}
use Rattle.mt_judge.specs.declared.judging.Found.TheVariants.{Verified, Refused}
use Rattle.mt_judge.specs.declared.judging.Judgment.{Judgment}
use Rattle.mt_judge.specs.declared.tallies.ReadTally.{ReadTally}

-- ---- how much a transcript reports

-- a read met a call: its window is wider than one number of calls
abbrev pub is_overlapped : What → Bool
is_overlapped (Got lo hi query answer) = nat_lt lo hi
is_overlapped (Wrote number call reply) = false
is_overlapped (Copied count) = false
is_overlapped (Lawful count) = false

abbrev pub how_many : (What → Bool) → List ToldLine → ℕ
how_many p told = length (filter (λ t. p t.what) told)

abbrev pub tally_of : List ToldLine → ReadTally
tally_of told = record { calls = how_many is_wrote told; reads = how_many is_got told; overlapped = how_many is_overlapped told }

-- ---- where a text stops

-- the log of the first lines of another
abbrev pub log_of_first : ℕ → Log → Log
log_of_first count log = record { version = log.version; lines = take count log.lines }

-- the text reports this of `count` lines of the log, and nothing of the next one, whatever follows
pub record StopsAt (log : Log) (text : List ℕ) (count : ℕ) (told : List ToldLine) (rest : List ℕ) : Type 0 where
  pub first : IsToldBy (log_of_first count log) text told rest
  pub within : count < length log.lines
  pub none : TellsNone (log_of_first (count + 1) log) text

-- ---- a judgment

-- verified where the text is that of a transcript of a run, and refused where it is of none
abbrev pub IsFound : Log → ℕ → List ℕ → Found → Type 0
IsFound log rows text Verified = (points : List ℕ) × IsVerdict log rows text (Yes points)
IsFound log rows text (Refused fault) = IsVerdict log rows text No

-- If a text reports all lines of the log, all lines are in order, or what is wrong with the order is reported.
abbrev pub KeepsOrderIn : List ToldLine → Found → Type 0
KeepsOrderIn told Verified = Unit {0}
KeepsOrderIn told (Refused fault) = IsInOrder told ⊎ KeepsOrder told fault

-- If a text stops earlier, its form is reported as wrong, after the lines that it has.
abbrev pub TellsStop : List ToldLine → Found → Type 0
TellsStop told Verified = Unit {0}
TellsStop told (Refused None) = ⊥
TellsStop told (Refused (Some fault)) = (length told < fault.line) × (is_of_form fault.cause ≡ true)

-- The tally is that of what the text reports of the log; if it stops, of what it reports before.
abbrev pub IsTallied : Log → List ℕ → Judgment → Type 0
IsTallied log text j = (told : List ToldLine) × (rest : List ℕ) × (j.tally ≡ tally_of told)
    × ((IsToldBy log text told rest × KeepsOrderIn told j.found) ⊎ ((count : ℕ) × StopsAt log text count told rest × TellsStop told j.found))

pub record IsJudged (log : Log) (rows : ℕ) (text : List ℕ) (j : Judgment) : Type 0 where
  pub found : IsFound log rows text j.found
  pub tally : IsTallied log text j

-- the bytes are a log, a line, and a text of which this is found
abbrev pub IsJudgedIn : ℕ → List ℕ → Judgment → Type 0
IsJudgedIn rows bytes j = (log : Log) × (front text : List ℕ) × (bytes ≡ front ++ (codes "---\n" ++ text))
    × (log_of front ≡ Ok log) × IsJudged log rows text j

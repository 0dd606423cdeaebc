-- Why bytes are no log: a line, and the first test of it that failed.
use Rattle.std.specs.Prelude.{◌≡◌, ℕ, List, Result, Ok, Err, codes}
use Rattle.mt_log.specs.declared.faults.Why.{Why}
use Rattle.mt_log.specs.declared.faults.Why.TheVariants.{NoNewline, Header, Unknown, Fields, Name, NoTree, Twice, BadKind, Number, LaneNo, Count, Order, Trees, Scans}
use Rattle.mt_log.specs.declared.faults.LogError.{LogError}
use Rattle.mt_log.specs.declared.faults.LogError.TheVariants.{Bad, NoMemory}

pub record Fault : Type 0 where
  pub line : ℕ
  pub why : Why

abbrev pub fault_at : ℕ → Why → Fault
fault_at line why = record { line = line; why = why }

-- what is read, if nothing is refused, goes on
infixl 10 ◌>>=◌
abbrev pub ◌>>=◌ : {A B E : Type 0} → Result A E → (A → Result B E) → Result B E
(Ok x) >>= f = f x
(Err e) >>= f = Err e

-- a test of a line that failed, on this line
abbrev pub on_line : {A : Type 0} → ℕ → Result A Why → Result A Fault
on_line line (Ok x) = Ok x
on_line line (Err why) = Err (fault_at line why)

-- a refusal is the one that there is, unless memory ran out
abbrev pub Refuses : {Y : Type 0} → LogError → Result Y Fault → Type 0
Refuses (Bad line why) reading = reading ≡ Err (record { line = line; why = why })
Refuses NoMemory reading = Unit {0}

-- what a reader answered, seen by `view`, is what there is to read
abbrev pub ReadsAs : {X Y : Type 0} → (X → Y) → Result X LogError → Result Y Fault → Type 0
ReadsAs view (Ok x) reading = reading ≡ Ok (view x)
ReadsAs view (Err e) reading = Refuses e reading

abbrev pub why_text : Why → List ℕ
why_text NoNewline = codes "no newline"
why_text Header = codes "no header"
why_text Unknown = codes "unknown word"
why_text Fields = codes "wrong number of fields"
why_text Name = codes "bad name"
why_text NoTree = codes "unknown tree"
why_text Twice = codes "tree declared twice"
why_text BadKind = codes "bad kind"
why_text Number = codes "bad number"
why_text LaneNo = codes "bad lane"
why_text Count = codes "bad count"
why_text Order = codes "not between phases"
why_text Trees = codes "too many trees"
why_text Scans = codes "too many scan steps"

-- Which steps of a log a text reports.
-- Source: this project's own.
use Rattle.std.specs.Prelude.{◌≡◌, ℕ, ◌<◌, ◌≤◌, ◌^◌, List, [], ◌∷◌, ◌++◌, Option, Some, None, All, AllPairs, codes, length, map, flat_map, decimal}
use Rattle.mt_told.specs.Prelude.{Range, Reply, Log, Entry, Said, Outcome, Called, Looked, Counted, Step, AreDone, entry_of, shown, steps_of, answer_text, reply_text, trees_of, most_lanes}
use Rattle.mt_log.specs.declared.transcripts.Said.TheVariants as said
use Rattle.mt_told.specs.Fronts.{IsInLine}
use Rattle.mt_told.specs.declared.told.ToldLine.{ToldLine}
use Rattle.mt_told.specs.declared.told.What.{What}
use Rattle.mt_told.specs.declared.told.What.TheVariants.{Wrote, Got, Copied, Lawful}

-- ---- how it is written

-- How replies and counts are spelled, instead of how a log of some version spells them. What a text says of a log does not
-- depend on it. A reply and a count may be any bytes of a line: who needs them compares them with what they should be.
pub record Spelling : Type 0 where
  pub reply : Reply → List ℕ
  pub count : ℕ → List ℕ

-- as a version of logs writes them
abbrev pub spelling_of : ℕ → Spelling
spelling_of version = record { reply = reply_text version; count = decimal }

abbrev pub spelled : Spelling → Said → List ℕ
spelled sp (said.Wrote number reply) = decimal number ++ (codes " " ++ sp.reply reply)
spelled sp (said.Got lo hi answer) = decimal lo ++ (codes " " ++ (decimal hi ++ (codes " " ++ answer_text answer)))
spelled sp (said.Lawful count) = codes "lawful " ++ sp.count count
spelled sp (said.Copied count) = codes "copied " ++ sp.count count

-- an entry's line
abbrev pub spelled_line : Spelling → Entry → List ℕ
spelled_line sp e = decimal e.line ++ (codes " " ++ (spelled sp e.said ++ 10 ∷ []))

-- ---- a step that is reported

-- The line reports this outcome, spelled this way. What is not printed may be anything: the version of which a read is true,
-- the rest of a loaded range, who held nodes back, and which ranges were counted.
abbrev pub IsSpelledOf : Spelling → What → Outcome → Type 0
IsSpelledOf sp (Wrote number call reply) (Called n c r) = (n ≡ number) × (c ≡ call) × (sp.reply r ≡ reply.now)
IsSpelledOf sp (Wrote number call reply) (Looked lo hi k q v) = ⊥
IsSpelledOf sp (Wrote number call reply) (Counted s ranges) = ⊥
IsSpelledOf sp (Got lo hi query answer) (Called n c r) = ⊥
IsSpelledOf sp (Got lo hi query answer) (Looked l h k q v) = (l ≡ lo) × (h ≡ hi) × (q ≡ query) × (shown q v ≡ answer)
IsSpelledOf sp (Got lo hi query answer) (Counted s ranges) = ⊥
IsSpelledOf sp (Copied count) (Called n c r) = ⊥
IsSpelledOf sp (Copied count) (Looked lo hi k q v) = ⊥
IsSpelledOf sp (Copied count) (Counted s ranges) = (s ≡ said.Copied) × (sp.count (length ranges) ≡ count.now)
IsSpelledOf sp (Lawful count) (Called n c r) = ⊥
IsSpelledOf sp (Lawful count) (Looked lo hi k q v) = ⊥
IsSpelledOf sp (Lawful count) (Counted s ranges) = (s ≡ said.Lawful) × (sp.count (length ranges) ≡ count.now)

pub record IsSpelled (sp : Spelling) (t : ToldLine) (s : Step) : Type 0 where
  pub line : s.line ≡ t.line
  pub lane : s.lane ≡ t.lane
  pub phase : s.phase ≡ t.phase
  pub tree : s.tree ≡ t.tree
  pub outcome : IsSpelledOf sp t.what s.outcome

-- the lines report these steps, one by one
abbrev pub AreSpelled : Spelling → List ToldLine → List Step → Type 0
AreSpelled sp [] [] = Unit {0}
AreSpelled sp [] (s ∷ steps) = ⊥
AreSpelled sp (t ∷ told) [] = ⊥
AreSpelled sp (t ∷ told) (s ∷ steps) = IsSpelled sp t s × AreSpelled sp told steps

abbrev pub IsTold : ℕ → ToldLine → Step → Type 0
IsTold version t s = IsSpelled (spelling_of version) t s

abbrev pub AreTold : ℕ → List ToldLine → List Step → Type 0
AreTold version told steps = AreSpelled (spelling_of version) told steps

-- it has the form of its line: a query returned some range or none, and no reply or count has an LF
abbrev pub HasForm : What → Type 0
HasForm (Got lo hi query answer) = (value : Option Range) × (shown query value ≡ answer)
HasForm (Wrote number call reply) = IsInLine reply.now
HasForm (Copied count) = IsInLine count.now
HasForm (Lawful count) = IsInLine count.now

-- ---- the lines of a transcript

-- what a line says, after its number
abbrev pub what_text : What → List ℕ
what_text (Wrote number call reply) = decimal number ++ (codes " " ++ reply.now)
what_text (Got lo hi query answer) = decimal lo ++ (codes " " ++ (decimal hi ++ (codes " " ++ answer_text answer)))
what_text (Copied count) = codes "copied " ++ count.now
what_text (Lawful count) = codes "lawful " ++ count.now

abbrev pub told_text : ToldLine → List ℕ
told_text t = decimal t.line ++ (codes " " ++ (what_text t.what ++ 10 ∷ []))

-- ---- numbers

abbrev pub IsSmallRange : Option Range → Type 0
IsSmallRange None = Unit {0}
IsSmallRange (Some r) = (r.first < 2 ^ 64) × (r.last < 2 ^ 64) × (r.entry < 2 ^ 64)

-- the numbers that are read off the text are of 64 bits
abbrev pub IsSmall : Outcome → Type 0
IsSmall (Called number call reply) = number < 2 ^ 64
IsSmall (Looked lo hi k query value) = (lo < 2 ^ 64) × (hi < 2 ^ 64) × IsSmallRange value
IsSmall (Counted s ranges) = Unit {0}

-- a reply and a count end no line
abbrev pub FitsLine : Spelling → Outcome → Type 0
FitsLine sp (Called number call reply) = (number < 2 ^ 64) × IsInLine (sp.reply reply)
FitsLine sp (Looked lo hi k query value) = (lo < 2 ^ 64) × (hi < 2 ^ 64) × IsSmallRange value
FitsLine sp (Counted s ranges) = IsInLine (sp.count (length ranges))

-- ---- a text

-- The text reports these steps of the log, each in its line, and then goes on with any bytes.
pub record TellsSteps (sp : Spelling) (log : Log) (text : List ℕ) (steps : List Step) (rest : List ℕ) : Type 0 where
  pub done : AreDone (steps_of log.lines) steps
  pub fit : All (λ s. FitsLine sp s.outcome) steps
  pub printed : text ≡ flat_map (spelled_line sp) (map entry_of steps) ++ rest

-- The text is these lines and then the rest. All steps that the text can report are reported by these lines, before the same
-- rest. And steps that these lines report are steps of the log, with whose lines the text begins.
pub record IsToldBy (log : Log) (text : List ℕ) (told : List ToldLine) (rest : List ℕ) : Type 0 where
  pub written : text ≡ flat_map told_text told ++ rest
  pub only : (sp : Spelling) (steps : List Step) (after : List ℕ) → TellsSteps sp log text steps after → AreSpelled sp told steps × (rest ≡ after)
  pub done : (sp : Spelling) (steps : List Step) → AreSpelled sp told steps → AreDone (steps_of log.lines) steps
  pub printed : (sp : Spelling) (steps : List Step) → AreSpelled sp told steps → text ≡ flat_map (spelled_line sp) (map entry_of steps) ++ rest
  pub form : All (λ t. HasForm t.what) told
  -- the lines are of the log's trees and lanes, phase by phase
  pub trees : All (λ t. t.tree < length (trees_of log.lines)) told
  pub lanes : All (λ t. t.lane < most_lanes) told
  pub phases : AllPairs (λ s t. s.phase ≤ t.phase) told
  -- each is a line of the text
  pub few : length told ≤ length text

-- the text reports no steps of the log, however they are spelled and whatever follows
abbrev pub TellsNone : Log → List ℕ → Type 0
TellsNone log text = (sp : Spelling) (steps : List Step) (rest : List ℕ) → TellsSteps sp log text steps rest → ⊥

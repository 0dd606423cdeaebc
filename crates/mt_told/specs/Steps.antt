-- What is read off a text of one step, and of the steps of several lines.
-- Source: this project's own.
use Rattle.std.specs.Prelude.{◌≡◌, ℕ, ◌+◌, ◌≤◌, List, [], ◌∷◌, ◌++◌, All, length, map, flat_map}
use Rattle.mt_told.specs.Prelude.{Item, Asked, Outcome, Called, Looked, Counted, Step, entry_of, said_of}
use Rattle.mt_log.specs.declared.transcripts.Said.TheVariants as said
use Rattle.mt_told.specs.declared.steps.Deed.{Deed}
use Rattle.mt_told.specs.declared.steps.Deed.TheVariants.{Call, Look, Copy, Check}
use Rattle.mt_told.specs.declared.steps.LinePlace.{LinePlace}
use Rattle.mt_told.specs.declared.told.ToldLine.{ToldLine}
use Rattle.mt_told.specs.declared.told.What.{What}
use Rattle.mt_told.specs.Telling.{AreSpelled, FitsLine, HasForm, IsSpelledOf, Spelling, spelled, spelled_line, told_text, what_text}

-- ---- what came of one deed

-- it is an outcome of this deed
abbrev pub IsOutcomeOf : Deed → Outcome → Type 0
IsOutcomeOf (Call call) (Called n c r) = c ≡ call
IsOutcomeOf (Call call) (Looked lo hi k q v) = ⊥
IsOutcomeOf (Call call) (Counted s ranges) = ⊥
IsOutcomeOf (Look query) (Called n c r) = ⊥
IsOutcomeOf (Look query) (Looked lo hi k q v) = q ≡ query
IsOutcomeOf (Look query) (Counted s ranges) = ⊥
IsOutcomeOf Copy (Called n c r) = ⊥
IsOutcomeOf Copy (Looked lo hi k q v) = ⊥
IsOutcomeOf Copy (Counted s ranges) = s ≡ said.Copied
IsOutcomeOf Check (Called n c r) = ⊥
IsOutcomeOf Check (Looked lo hi k q v) = ⊥
IsOutcomeOf Check (Counted s ranges) = s ≡ said.Lawful

-- what a line says of an outcome, after its number, and its LF
abbrev pub outcome_text : Spelling → Outcome → List ℕ
outcome_text sp o = spelled sp (said_of o) ++ (10 ∷ [])

-- The text begins with what a line says of an outcome of this deed, whichever outcome it reports, and goes on with the rest.
-- And any outcome of the deed whose line the text begins with is the one that it reports.
pub record TellsOf (deed : Deed) (text : List ℕ) (what : What) (rest : List ℕ) : Type 0 where
  pub only : (sp : Spelling) (o : Outcome) (after : List ℕ) → IsOutcomeOf deed o → FitsLine sp o → text ≡ outcome_text sp o ++ after → IsSpelledOf sp what o × (rest ≡ after)
  pub its : (sp : Spelling) (o : Outcome) → IsSpelledOf sp what o → IsOutcomeOf deed o
  pub printed : (sp : Spelling) (o : Outcome) → IsSpelledOf sp what o → text ≡ outcome_text sp o ++ rest
  pub written : text ≡ (what_text what ++ (10 ∷ [])) ++ rest
  pub form : HasForm what
  pub shorter : length rest ≤ length text

-- it begins with what is said of no outcome of this deed
abbrev pub TellsNothingOf : Deed → List ℕ → Type 0
TellsNothingOf deed text = (sp : Spelling) (o : Outcome) (after : List ℕ) → IsOutcomeOf deed o → FitsLine sp o → text ≡ outcome_text sp o ++ after → ⊥

-- ---- steps

-- a step at this place
abbrev pub step_at_place : LinePlace → Outcome → Step
step_at_place p o = record { line = p.line; lane = p.lane; phase = p.phase; tree = p.tree; outcome = o }

-- what the text says of a step at this place
abbrev pub told_at : LinePlace → What → ToldLine
told_at p what = record { line = p.line; lane = p.lane; phase = p.phase; tree = p.tree; what = what }

-- these steps are one of this deed at this place
abbrev pub IsStepAt : LinePlace → Deed → List Step → Type 0
IsStepAt place deed steps = (o : Outcome) × (steps ≡ step_at_place place o ∷ []) × IsOutcomeOf deed o

-- the lines of these steps
abbrev pub steps_text : Spelling → List Step → List ℕ
steps_text sp steps = flat_map (spelled_line sp) (map entry_of steps)

abbrev pub AllFit : Spelling → List Step → Type 0
AllFit sp steps = All (λ s. FitsLine sp s.outcome) steps

-- The text begins with the lines of steps that are done so, whichever steps it reports, and goes on with the rest. And any
-- steps that are done so, with whose lines the text begins, are the ones that it reports.
pub record TellsDone (IsDoneSo : List Step → Type 0) (text : List ℕ) (told : List ToldLine) (rest : List ℕ) : Type 0 where
  pub only : (sp : Spelling) (steps : List Step) (after : List ℕ) → IsDoneSo steps → AllFit sp steps → text ≡ steps_text sp steps ++ after → AreSpelled sp told steps × (rest ≡ after)
  pub its : (sp : Spelling) (steps : List Step) → AreSpelled sp told steps → IsDoneSo steps
  pub printed : (sp : Spelling) (steps : List Step) → AreSpelled sp told steps → text ≡ steps_text sp steps ++ rest
  pub written : text ≡ flat_map told_text told ++ rest
  pub shorter : length told + length rest ≤ length text

-- it begins with the lines of no steps that are done so
abbrev pub TellsNotDone : (List Step → Type 0) → List ℕ → Type 0
TellsNotDone IsDoneSo text = (sp : Spelling) (steps : List Step) (after : List ℕ) → IsDoneSo steps → AllFit sp steps → text ≡ steps_text sp steps ++ after → ⊥

-- what the text says is of this place
pub record IsToldAt (place : LinePlace) (t : ToldLine) : Type 0 where
  pub line : t.line ≡ place.line
  pub lane : t.lane ≡ place.lane
  pub phase : t.phase ≡ place.phase
  pub tree : t.tree ≡ place.tree
  pub form : HasForm t.what

-- the text begins with a line of this deed at this place, and this is what the line says
pub record TellsStepAt (place : LinePlace) (deed : Deed) (text : List ℕ) (t : ToldLine) (rest : List ℕ) : Type 0 where
  pub told : TellsDone (IsStepAt place deed) text (t ∷ []) rest
  pub stands : IsToldAt place t

-- the line at this place, with what it asks for
abbrev pub asked_at : LinePlace → Item → Asked
asked_at p item = record { line = p.line; lane = p.lane; phase = p.phase; item = item }

-- After what was read before comes what the text says of steps that are done so, each in its place, up to the rest.
pub record AddsTold (IsDoneSo : List Step → Type 0) (IsPlaced : ToldLine → Type 0) (text : List ℕ) (old new : List ToldLine) (rest : List ℕ) : Type 0 where
  pub mine : List ToldLine
  pub whole : new ≡ old ++ mine
  pub told : TellsDone IsDoneSo text mine rest
  pub placed : All IsPlaced mine

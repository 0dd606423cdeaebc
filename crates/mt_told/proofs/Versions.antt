-- What a text tells of a log, as the log's version writes it.
use Rattle.mt_told.proofs.Prelude.{◌≡◌, ℕ, List, [], ◌∷◌, ◌++◌, length, map, refl, sym, ap, ◌∙◌, All, flat_map, decimal, All-weaker, Log, Entry, Said, Outcome, Called, Looked, Counted, Step, AreDone, entry_of, steps_of, entry_text, said_text, ToldLine, AreTold, FitsLine, IsSmall, IsToldBy, TellsNone, TellsSteps, spelled, spelled_line, spelling_of}
use Rattle.mt_log.specs.declared.transcripts.Said.TheVariants as said
use Rattle.mt_told.proofs.Outcomes.{number_in_line, reply_in_line}

said_so : (version : ℕ) (s : Said) → spelled (spelling_of version) s ≡ said_text version s
said_so version (said.Wrote number reply) = refl
said_so version (said.Got lo hi answer) = refl
said_so version (said.Lawful count) = refl
said_so version (said.Copied count) = refl

written_so : (version : ℕ) (entries : List Entry) → flat_map (spelled_line (spelling_of version)) entries ≡ flat_map (entry_text version) entries
written_so version [] = refl
written_so version (e ∷ entries) = λ i. (decimal e.line ++ (32 ∷ (said_so version e.said i ++ 10 ∷ []))) ++ written_so version entries i

fits_so : (version : ℕ) (o : Outcome) → IsSmall o → FitsLine (spelling_of version) o
fits_so version (Called number call reply) small = (small, reply_in_line version reply)
fits_so version (Looked lo hi k query value) small = small
fits_so version (Counted s ranges) small = number_in_line (length ranges)

module _ (log : Log) (text : List ℕ) (steps : List Step) (rest : List ℕ) where
  tells_so : AreDone (steps_of log.lines) steps → All (λ (s : Step). IsSmall s.outcome) steps → text ≡ flat_map (entry_text log.version) (map entry_of steps) ++ rest → TellsSteps (spelling_of log.version) log text steps rest
  tells_so done small printed = record {
    done = done;
    fit = All-weaker (λ (s : Step). IsSmall s.outcome) (λ (s : Step). FitsLine (spelling_of log.version) s.outcome) (λ s h. fits_so log.version s.outcome h) steps small;
    printed = printed ∙ ap (λ (t : List ℕ). t ++ rest) (sym (written_so log.version (map entry_of steps)));
  }

  pub none_told : TellsNone log text → AreDone (steps_of log.lines) steps → All (λ (s : Step). IsSmall s.outcome) steps → text ≡ flat_map (entry_text log.version) (map entry_of steps) ++ rest → ⊥
  none_told none done small printed = none (spelling_of log.version) steps rest (tells_so done small printed)

  module _ (told : List ToldLine) (behind : List ℕ) (by : IsToldBy log text told behind) where
    pub only_told : AreDone (steps_of log.lines) steps → All (λ (s : Step). IsSmall s.outcome) steps → text ≡ flat_map (entry_text log.version) (map entry_of steps) ++ rest → AreTold log.version told steps × (behind ≡ rest)
    only_told done small printed = by.only (spelling_of log.version) steps rest (tells_so done small printed)

pub printed_told : (log : Log) (text behind : List ℕ) (told : List ToldLine) (steps : List Step) → IsToldBy log text told behind → AreTold log.version told steps → text ≡ flat_map (entry_text log.version) (map entry_of steps) ++ behind
printed_told log text behind told steps by are = by.printed (spelling_of log.version) steps are ∙ ap (λ (t : List ℕ). t ++ behind) (written_so log.version (map entry_of steps))

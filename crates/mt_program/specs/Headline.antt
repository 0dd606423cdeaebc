-- What the program promises. It prints the text of a run of the log that it read, or an image of that run's first tree. Or what
-- its command makes from a number (seed), or how much a transcript of a run reports, or the listing of the tree whose image it
-- read.
use Rattle.std.specs.Prelude.{◌≡◌, ℕ, List, [], ◌∷◌, ◌++◌, Option, Some, None, Ok, IfSome, codes, decimal}
use Rattle.mt_program.specs.Prelude.{Log, refusal, IsInForm, log_of, IsRun, TellsRun, listing_text, text_of, Listing, Transcript, IsImageOfRun, IsIdsText, IsBulkImage, IsImageListing, IsMadeText, IsTrialText, count_of_calls, reads_told, Command, Replay, Make, Trial, Verify, Image, Show, Bulk, Ids}
use Rattle.mt_program.specs.Parts.{AreParts}

-- this is the text of a run of the log that these bytes are, over trees of this many nodes
abbrev pub IsTextOfRun : ℕ → List ℕ → List ℕ → Type 0
IsTextOfRun rows bytes text = (log : Log) × (log_of bytes ≡ Ok log) × TellsRun rows log text

-- how many calls and how many reads a transcript reports
abbrev pub verified_text : ℕ → ℕ → List ℕ
verified_text calls reads = codes "verified " ++ (decimal calls ++ (codes " " ++ (decimal reads ++ 10 ∷ [])))

-- the bytes are a log and the text of a transcript of a run of it, over trees of this many nodes, and this text says how much
-- the transcript reports
abbrev pub IsVerifiedText : ℕ → List ℕ → List ℕ → Type 0
IsVerifiedText rows bytes text =
    (log : Log) × (t : Transcript) × AreParts bytes log (text_of t) × IsRun log rows t × (text ≡ verified_text (count_of_calls t) (reads_told t))

-- this is an image of the first tree of a run of the log that these bytes are, over trees of this many nodes
abbrev pub IsImageOfLog : ℕ → List ℕ → List ℕ → Type 0
IsImageOfLog rows bytes image = (log : Log) × (log_of bytes ≡ Ok log) × IsImageOfRun rows log image

-- the bytes are this listing
pub record IsListing (bytes : List ℕ) (l : Listing) : Type 0 where
  pub form : IsInForm l
  pub text : bytes ≡ listing_text l

-- the bytes are a listing, and this is the image of a tree of its kind that is bulk-built from its ranges
abbrev pub IsBuiltImage : List ℕ → List ℕ → Type 0
IsBuiltImage bytes image = (l : Listing) × IsListing bytes l × (refusal l.kind l.ranges ≡ None) × IsBulkImage l.kind l.ranges image

-- this is what a command prints of the bytes that it read
abbrev pub IsOutput : Command → List ℕ → List ℕ → Type 0
IsOutput (Replay rows) bytes text = IsTextOfRun rows bytes text
IsOutput (Make number steps lanes) bytes text = IsMadeText number steps lanes text
IsOutput (Trial number steps) bytes text = IsTrialText number steps text
IsOutput (Verify rows) bytes text = IsVerifiedText rows bytes text
IsOutput (Image rows) bytes text = IsImageOfLog rows bytes text
IsOutput Show bytes text = IsImageListing bytes text
IsOutput (Bulk workers) bytes text = IsBuiltImage bytes text
IsOutput (Ids lo hi steps drops) bytes text = IsIdsText lo hi steps drops text

-- this is what a command prints, by the bytes that the source has left, if they are known
abbrev pub Prints : Command → Option (List ℕ) → List ℕ → Type 0
Prints (Replay rows) left text = IfSome left (λ bytes. IsTextOfRun rows bytes text)
Prints (Make number steps lanes) left text = IsMadeText number steps lanes text
Prints (Trial number steps) left text = IsTrialText number steps text
Prints (Verify rows) left text = IfSome left (λ bytes. IsVerifiedText rows bytes text)
Prints (Image rows) left text = IfSome left (λ bytes. IsImageOfLog rows bytes text)
Prints Show left text = IfSome left (λ bytes. IsImageListing bytes text)
Prints (Bulk workers) left text = IfSome left (λ bytes. IsBuiltImage bytes text)
Prints (Ids lo hi steps drops) left text = IsIdsText lo hi steps drops text

-- From a source that has these bytes left, a sink that held some bytes holds also what the command prints.
abbrev pub WritesOutput : Command → Option (List ℕ) → Option (List ℕ) → Option (List ℕ) → Type 0
WritesOutput command left before after = (held : List ℕ) → before ≡ Some held → (text : List ℕ) × Prints command left text × (after ≡ Some (held ++ text))

-- it holds the first part of it
abbrev pub WritesPart : Command → Option (List ℕ) → Option (List ℕ) → Option (List ℕ) → Type 0
WritesPart command left before after = (held : List ℕ) → before ≡ Some held → (part rest : List ℕ) × Prints command left (part ++ rest) × (after ≡ Some (held ++ part))

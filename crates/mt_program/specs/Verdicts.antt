-- What a command says of the bytes that it read: it takes them, or refuses them for a cause; and which status they call for.
use Rattle.std.specs.Prelude.{◌≡◌, ◌≢◌, ◌⊎◌, ◌+◌, ◌<◌, ◌≤◌, ℕ, List, [], Option, Some, None, Ok, Err, length, IfSome, IsOk}
use Rattle.mt_program.specs.Prelude.{refusal, image_in, IsBadAt, fault_at, log_of, TellsRun, trees_of, Log, Listing, Command, Replay, Make, Trial, Verify, Image, Show, Bulk, Ids}
use Rattle.mt_bulk.specs.declared.errors.BulkError.TheVariants as errors
use Rattle.mt_program.specs.Command.{input_limit}
use Rattle.mt_program.specs.Ending.{TellsText, failure_text, status_of}
use Rattle.mt_program.specs.Headline.{IsListing}
use Rattle.mt_program.specs.Parts.{AreParts, line_behind, parts_at_cut}
use Rattle.mt_program.specs.declared.failures.Failure.{Failure}
use Rattle.mt_program.specs.declared.failures.Failure.TheVariants as failures
use Rattle.mt_program.specs.declared.failures.Unbuilt.{Unbuilt}
use Rattle.mt_program.specs.declared.failures.Unbuilt.TheVariants as unbuilt

-- the bytes are no log, for this cause
abbrev pub IsBadLog : List ℕ → Failure → Type 0
IsBadLog bytes (failures.BadLog line why) = log_of bytes ≡ Err (fault_at line why)
IsBadLog bytes failure = ⊥

-- the bytes are no log and text of a transcript of a run of it, over trees of this many nodes, for this cause
abbrev pub IsUnverified : ℕ → List ℕ → Failure → Type 0
IsUnverified rows bytes (failures.NoTranscript line) = (parts_at_cut bytes ≡ None) × (line ≡ line_behind bytes)
IsUnverified rows bytes (failures.BadLog line why) = (front text : List ℕ) × (parts_at_cut bytes ≡ Some (front, text)) × IsBadLog front (failures.BadLog line why)
IsUnverified rows bytes failures.Refused = (log : Log) × (text : List ℕ) × AreParts bytes log text × ¬ TellsRun rows log text
IsUnverified rows bytes failure = ⊥

-- the bytes are no log that declares a tree, for this cause
abbrev pub IsTreeless : List ℕ → Failure → Type 0
IsTreeless bytes (failures.BadLog line why) = IsBadLog bytes (failures.BadLog line why)
IsTreeless bytes (failures.NoTree line) = (log : Log) × (log_of bytes ≡ Ok log) × (trees_of log.lines ≡ []) × (line ≡ line_behind bytes)
IsTreeless bytes failure = ⊥

-- the bytes are no image, for this cause
abbrev pub IsNoImage : List ℕ → Failure → Type 0
IsNoImage bytes (failures.BadImage error) = image_in bytes ≡ Err error
IsNoImage bytes failure = ⊥

-- No tree is built from the bytes, for this reason and with this line number. They are no listing. Or the range at some place,
-- counted from 0, is no range of the listing's kind, or does not begin above the end of the one before it: its line is two
-- after that place. Or the tree has too many nodes, which has line 1.
abbrev pub IsUnbuiltAt : List ℕ → ℕ → Unbuilt → Type 0
IsUnbuiltAt bytes line unbuilt.Listing = IsBadAt bytes line
IsUnbuiltAt bytes line unbuilt.Order = (l : Listing) × (at : ℕ) × IsListing bytes l × (refusal l.kind l.ranges ≡ Some (errors.Order at)) × (line ≡ at + 2)
IsUnbuiltAt bytes line unbuilt.Rows = (l : Listing) × (rows : ℕ) × IsListing bytes l × (refusal l.kind l.ranges ≡ Some (errors.TooMany rows)) × (line ≡ 1)

abbrev pub IsUnbuilt : List ℕ → Failure → Type 0
IsUnbuilt bytes (failures.NotBuilt line why) = IsUnbuiltAt bytes line why
IsUnbuilt bytes failure = ⊥

-- the bytes are what the command asks for: one that reads nothing takes any
abbrev pub TakesBytes : Command → List ℕ → Type 0
TakesBytes (Replay rows) bytes = IsOk (log_of bytes)
TakesBytes (Make number steps lanes) bytes = Unit {0}
TakesBytes (Trial number steps) bytes = Unit {0}
TakesBytes (Verify rows) bytes = (log : Log) × (text : List ℕ) × AreParts bytes log text × TellsRun rows log text
TakesBytes (Image rows) bytes = (log : Log) × (log_of bytes ≡ Ok log) × (trees_of log.lines ≢ [])
TakesBytes Show bytes = IsOk (image_in bytes)
TakesBytes (Bulk workers) bytes = (l : Listing) × IsListing bytes l × (refusal l.kind l.ranges ≡ None)
TakesBytes (Ids lo hi steps drops) bytes = Unit {0}

-- the command refuses the bytes, for this cause
abbrev pub RefusesBytes : Command → List ℕ → Failure → Type 0
RefusesBytes (Replay rows) bytes failure = IsBadLog bytes failure
RefusesBytes (Make number steps lanes) bytes failure = ⊥
RefusesBytes (Trial number steps) bytes failure = ⊥
RefusesBytes (Verify rows) bytes failure = IsUnverified rows bytes failure
RefusesBytes (Image rows) bytes failure = IsTreeless bytes failure
RefusesBytes Show bytes failure = IsNoImage bytes failure
RefusesBytes (Bulk workers) bytes failure = IsUnbuilt bytes failure
RefusesBytes (Ids lo hi steps drops) bytes failure = ⊥

-- the status of the command's verdict on its bytes
abbrev pub HasStatus : Command → List ℕ → ℕ → Type 0
HasStatus command bytes status = (TakesBytes command bytes × (status ≡ 0)) ⊎ ((failure : Failure) × RefusesBytes command bytes failure × (status ≡ status_of failure))

-- the status that these bytes call for, where nothing fails
abbrev pub IsDue : Command → List ℕ → ℕ → Type 0
IsDue command bytes status = ((input_limit command < length bytes) × (status ≡ 6)) ⊎ ((length bytes ≤ input_limit command) × HasStatus command bytes status)

-- ---- where the words are a command, or none, and the source's bytes may be known

-- the words are a command, which takes the bytes that the source has
abbrev pub AreBytesTaken : Option Command → Option (List ℕ) → Type 0
AreBytesTaken None left = ⊥
AreBytesTaken (Some command) left = IfSome left (TakesBytes command)

-- they are one that refuses them, for this cause
abbrev pub AreBytesRefused : Option Command → Option (List ℕ) → Failure → Type 0
AreBytesRefused None left failure = ⊥
AreBytesRefused (Some command) left failure = IfSome left (λ bytes. RefusesBytes command bytes failure)

-- the report is true: the bytes are refused as the command refuses them
abbrev pub IsToldOf : Option Command → Option (List ℕ) → Failure → Type 0
IsToldOf command left (failures.BadLog line why) = AreBytesRefused command left (failures.BadLog line why)
IsToldOf command left (failures.NoTranscript line) = AreBytesRefused command left (failures.NoTranscript line)
IsToldOf command left (failures.NoTree line) = AreBytesRefused command left (failures.NoTree line)
IsToldOf command left (failures.NotBuilt line why) = AreBytesRefused command left (failures.NotBuilt line why)
IsToldOf command left failures.Usage = Unit {0}
IsToldOf command left failures.ReadFault = Unit {0}
IsToldOf command left failures.WriteFault = Unit {0}
IsToldOf command left failures.NoMemory = Unit {0}
IsToldOf command left failures.TooLong = Unit {0}
IsToldOf command left failures.Refused = AreBytesRefused command left failures.Refused
IsToldOf command left (failures.BadImage error) = AreBytesRefused command left (failures.BadImage error)

-- err got the text of the status
abbrev pub TellsStatus : Option Command → Option (List ℕ) → ℕ → Option (List ℕ) → Option (List ℕ) → ℕ → ℕ → Type 0
TellsStatus command left status before after faults_before faults_after =
    (failure : Failure) × (status_of failure ≡ status) × IsToldOf command left failure × TellsText before after faults_before faults_after (failure_text failure)

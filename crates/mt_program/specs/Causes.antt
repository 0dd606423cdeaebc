-- What each end of a run says of its words, its source and its sink.
use Rattle.std.specs.Prelude.{◌≡◌, ◌⊎◌, ◌++◌, ℕ, List, Option, Some, None, Result, Ok, Err}
use Rattle.std.specs.Io.KnownBytes.{Appends}
use Rattle.mt_program.specs.Prelude.{Rose, ImageError, ListingError, LogError, Command, Replay, Make, Trial, Verify, Image, Show, Bulk, Ids, IsIdsText, IsMadeText, IsTrialText}
use Rattle.mt_image.specs.declared.errors.ImageError.TheVariants as images
use Rattle.mt_told.specs.declared.errors.ListingError.TheVariants as listings
use Rattle.mt_log.specs.declared.faults.LogError.TheVariants as logs
use Rattle.mt_program.specs.Command.{input_limit}
use Rattle.mt_program.specs.Ending.{ReadsTooMany, ReadsWithin}
use Rattle.mt_program.specs.Headline.{IsOutput}
use Rattle.mt_program.specs.Input.{ReadsAll}
use Rattle.mt_program.specs.Verdicts.{RefusesBytes}
use Rattle.mt_program.specs.declared.failures.Failure.{Failure}
use Rattle.mt_program.specs.declared.failures.Failure.TheVariants as failures
use Rattle.mt_program.specs.declared.failures.Unbuilt.TheVariants as unbuilt
use Rattle.mt_program.specs.declared.streams.ReadError.{ReadError}
use Rattle.mt_program.specs.declared.streams.ReadError.TheVariants as reads

abbrev pub failure_of_read : ReadError → Failure
failure_of_read reads.Fault = failures.ReadFault
failure_of_read reads.TooLong = failures.TooLong
failure_of_read reads.NoMemory = failures.NoMemory

abbrev pub failure_of_listing : ListingError → Failure
failure_of_listing (listings.Bad line) = failures.NotBuilt line unbuilt.Listing
failure_of_listing listings.NoMemory = failures.NoMemory

abbrev pub failure_of_log : LogError → Failure
failure_of_log (logs.Bad line why) = failures.BadLog line why
failure_of_log logs.NoMemory = failures.NoMemory

abbrev pub failure_of_image : ImageError → Failure
failure_of_image images.NoMemory = failures.NoMemory
failure_of_image error = failures.BadImage error

-- the whole input was read, and is refused for this cause, by which bytes are refused for which
abbrev pub RefusesInput : ℕ → (List ℕ → Failure → Type 0) → Failure → Option (List ℕ) → Option (List ℕ) → Type 0
RefusesInput limit Refused failure left rest = (bytes : List ℕ) × ReadsAll limit left rest bytes × Refused bytes failure

-- Why nothing was made from an input of at most this many bytes: which bytes are refused for which cause. And what was left of
-- the source and its faults, before and after.
abbrev pub FailsToRead : ℕ → (List ℕ → Failure → Type 0) → Failure → Option (List ℕ) → Option (List ℕ) → ℕ → ℕ → Type 0
FailsToRead limit Refused (failures.BadLog line why) left rest before after = RefusesInput limit Refused (failures.BadLog line why) left rest
FailsToRead limit Refused (failures.NoTranscript line) left rest before after = RefusesInput limit Refused (failures.NoTranscript line) left rest
FailsToRead limit Refused (failures.NoTree line) left rest before after = RefusesInput limit Refused (failures.NoTree line) left rest
FailsToRead limit Refused (failures.NotBuilt line why) left rest before after = RefusesInput limit Refused (failures.NotBuilt line why) left rest
FailsToRead limit Refused failures.Usage left rest before after = ⊥
FailsToRead limit Refused failures.ReadFault left rest before after = ReadsWithin limit left rest × Rose before after
FailsToRead limit Refused failures.WriteFault left rest before after = ⊥
FailsToRead limit Refused failures.NoMemory left rest before after = Unit {0}
FailsToRead limit Refused failures.TooLong left rest before after = ReadsTooMany limit left rest
FailsToRead limit Refused failures.Refused left rest before after = RefusesInput limit Refused failures.Refused left rest
FailsToRead limit Refused (failures.BadImage error) left rest before after = RefusesInput limit Refused (failures.BadImage error) left rest

-- memory ran out, or the bytes are refused for this cause
abbrev pub FailsOn : (List ℕ → Failure → Type 0) → List ℕ → Failure → Type 0
FailsOn Refused bytes failures.NoMemory = Unit {0}
FailsOn Refused bytes failure = Refused bytes failure

-- what is left of a source and what a sink holds, with their faults
pub record Streams : Type 0 where
  pub left : Option (List ℕ)
  pub source_faults : ℕ
  pub written : Option (List ℕ)
  pub sink_faults : ℕ

abbrev pub streams : Option (List ℕ) → ℕ → Option (List ℕ) → ℕ → Streams
streams left source_faults written sink_faults = record { left = left; source_faults = source_faults; written = written; sink_faults = sink_faults }

-- the whole input was read, and what the command prints of it was written
abbrev pub Finishes : Command → Streams → Streams → Type 0
Finishes command old new = (bytes text : List ℕ) × ReadsAll (input_limit command) old.left new.left bytes × IsOutput command bytes text × Appends old.written new.written text

-- the whole input was read, and only the first part of what the command prints of it was written
abbrev pub FailsToWrite : Command → Streams → Streams → Type 0
FailsToWrite command old new =
    (bytes part rest : List ℕ) × ReadsAll (input_limit command) old.left new.left bytes × IsOutput command bytes (part ++ rest)
    × Appends old.written new.written part × Rose old.sink_faults new.sink_faults

abbrev pub Fails : Command → Failure → Streams → Streams → Type 0
Fails command failures.WriteFault old new = FailsToWrite command old new
Fails command failure old new = FailsToRead (input_limit command) (RefusesBytes command) failure old.left new.left old.source_faults new.source_faults

-- how a command ended that reads the source
abbrev pub EndsReading : Command → Result (Unit {0}) Failure → Streams → Streams → Type 0
EndsReading command (Ok done) old new = Finishes command old new
EndsReading command (Err failure) old new = Fails command failure old new

-- how it ended to print a text: whole, or its first part where the sink failed
abbrev pub EndsPrint : List ℕ → Result (Unit {0}) Failure → Option (List ℕ) → Option (List ℕ) → ℕ → ℕ → Type 0
EndsPrint text (Ok done) before after faults_before faults_after = Appends before after text
EndsPrint text (Err failure) before after faults_before faults_after =
    (failure ≡ failures.WriteFault) × (part rest : List ℕ) × (text ≡ part ++ rest) × Appends before after part × Rose faults_before faults_after

-- how it ended to make such a text and print it
abbrev pub EndsMaking : (List ℕ → Type 0) → Result (Unit {0}) Failure → Option (List ℕ) → Option (List ℕ) → ℕ → ℕ → Type 0
EndsMaking IsText (Ok done) before after faults_before faults_after = (text : List ℕ) × IsText text × Appends before after text
EndsMaking IsText (Err failures.WriteFault) before after faults_before faults_after =
    (part rest : List ℕ) × IsText (part ++ rest) × Appends before after part × Rose faults_before faults_after
EndsMaking IsText (Err failure) before after faults_before faults_after = failure ≡ failures.NoMemory

-- how it ended where the words are this command, or none
abbrev pub Ends : Option Command → Result (Unit {0}) Failure → Streams → Streams → Type 0
Ends (Some (Replay rows)) result old new = EndsReading (Replay rows) result old new
Ends (Some (Make number steps lanes)) result old new = EndsMaking (IsMadeText number steps lanes) result old.written new.written old.sink_faults new.sink_faults
Ends (Some (Trial number steps)) result old new = EndsMaking (IsTrialText number steps) result old.written new.written old.sink_faults new.sink_faults
Ends (Some (Verify rows)) result old new = EndsReading (Verify rows) result old new
Ends (Some (Image rows)) result old new = EndsReading (Image rows) result old new
Ends (Some Show) result old new = EndsReading Show result old new
Ends None result old new = (result ≡ Err failures.Usage) ⊎ (result ≡ Err failures.NoMemory)
Ends (Some (Bulk workers)) result old new = EndsReading (Bulk workers) result old new
Ends (Some (Ids lo hi steps drops)) result old new = EndsMaking (IsIdsText lo hi steps drops) result old.written new.written old.sink_faults new.sink_faults

-- `Ends`, as a fact that names the streams of which it speaks
pub record HasEnded (command : Option Command) (result : Result (Unit {0}) Failure) (old new : Streams) : Type 0 where
  pub ends : Ends command result old new

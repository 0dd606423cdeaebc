-- What reading an input to its end takes from the source, and why none was read.
use Rattle.std.specs.Prelude.{◌≡◌, ◌≤◌, ℕ, List, length}
use Rattle.std.specs.declared.option.Option.{Option}
use Rattle.std.specs.Io.KnownBytes.{Consumes, IsAtEnd}
use Rattle.mt_program.specs.Prelude.{Rose}
use Rattle.mt_program.specs.Ending.{ReadsTooMany, ReadsWithin}
use Rattle.mt_program.specs.declared.streams.ReadError.{ReadError}
use Rattle.mt_program.specs.declared.streams.ReadError.TheVariants as reads

-- these bytes were all that was left, and are no more than an input may have
pub record ReadsAll (limit : ℕ) (left rest : Option (List ℕ)) (bytes : List ℕ) : Type 0 where
  pub taken : Consumes left rest bytes
  pub at_end : IsAtEnd rest
  pub within : length bytes ≤ limit

-- why no input was read, by what was left of the source and its faults, before and after
abbrev pub ReadFails : ℕ → ReadError → Option (List ℕ) → Option (List ℕ) → ℕ → ℕ → Type 0
ReadFails limit reads.Fault left rest faults_before faults_after = ReadsWithin limit left rest × Rose faults_before faults_after
ReadFails limit reads.TooLong left rest faults_before faults_after = ReadsTooMany limit left rest × (faults_after ≡ faults_before)
ReadFails limit reads.NoMemory left rest faults_before faults_after = faults_after ≡ faults_before

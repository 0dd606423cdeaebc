-- Why a run ends without its whole output: the status and the text of each cause.
use Rattle.std.specs.Prelude.{◌≡◌, ◌⊎◌, ℕ, List, [], ◌∷◌, ◌++◌, Option, ◌+◌, ◌≤◌, length, codes, decimal}
use Rattle.std.specs.Io.KnownBytes.{Appends, Consumes}
use Rattle.mt_program.specs.Prelude.{Rose, ImageError, error_text, why_text}
use Rattle.mt_program.specs.declared.failures.Failure.{Failure}
use Rattle.mt_program.specs.declared.failures.Failure.TheVariants as failures
use Rattle.mt_program.specs.declared.failures.Unbuilt.{Unbuilt}
use Rattle.mt_program.specs.declared.failures.Unbuilt.TheVariants as unbuilt

abbrev pub status_of : Failure → ℕ
status_of (failures.BadLog line why) = 1
status_of (failures.NoTranscript line) = 1
status_of (failures.NoTree line) = 1
status_of (failures.NotBuilt line why) = 1
status_of failures.Usage = 2
status_of failures.ReadFault = 3
status_of failures.WriteFault = 4
status_of failures.NoMemory = 5
status_of failures.TooLong = 6
status_of failures.Refused = 7
status_of (failures.BadImage error) = 8

-- what is wrong with a line of the input
abbrev pub faulty_line : ℕ → List ℕ → List ℕ
faulty_line line why = codes "mtreplay: line " ++ (decimal line ++ (codes ": " ++ (why ++ 10 ∷ [])))

-- why no tree is built of the input
abbrev pub unbuilt_text : Unbuilt → List ℕ
unbuilt_text unbuilt.Listing = codes "bad listing"
unbuilt_text unbuilt.Order = codes "bad order"
unbuilt_text unbuilt.Rows = codes "too many rows"

-- why the input is no image
abbrev pub refusal_text : ImageError → List ℕ
refusal_text error = codes "mtreplay: image refused: " ++ (error_text error ++ 10 ∷ [])

-- what is written to `err`
abbrev pub failure_text : Failure → List ℕ
failure_text (failures.BadLog line why) = faulty_line line (why_text why)
failure_text (failures.NoTranscript line) = faulty_line line (codes "no transcript")
failure_text (failures.NoTree line) = faulty_line line (codes "no tree")
failure_text (failures.NotBuilt line why) = faulty_line line (unbuilt_text why)
failure_text failures.Usage = codes "mtreplay: usage: replay [--rows N], make NUMBER STEPS LANES, trial NUMBER STEPS, verify [--rows N], image [--rows N], show, bulk WORKERS, ids LO HI STEPS DROP\n"
failure_text failures.ReadFault = codes "mtreplay: read fault\n"
failure_text failures.WriteFault = codes "mtreplay: write fault\n"
failure_text failures.NoMemory = codes "mtreplay: out of memory\n"
failure_text failures.TooLong = codes "mtreplay: input too long\n"
failure_text failures.Refused = codes "mtreplay: transcript refused\n"
failure_text (failures.BadImage error) = refusal_text error

-- a sink got a text whole, or the first part of it where its faults rose
abbrev pub TellsText : Option (List ℕ) → Option (List ℕ) → ℕ → ℕ → List ℕ → Type 0
TellsText before after faults_before faults_after text = (part rest : List ℕ) × (text ≡ part ++ rest) × Appends before after part × ((rest ≡ []) ⊎ Rose faults_before faults_after)

-- more bytes were read than an input of this many may have: one more
abbrev pub ReadsTooMany : ℕ → Option (List ℕ) → Option (List ℕ) → Type 0
ReadsTooMany limit left rest = (bytes : List ℕ) × Consumes left rest bytes × (length bytes ≡ limit + 1)

abbrev pub ReadsWithin : ℕ → Option (List ℕ) → Option (List ℕ) → Type 0
ReadsWithin limit left rest = (bytes : List ℕ) × Consumes left rest bytes × (length bytes ≤ limit)

-- never more bytes are read than one more than an input may have
abbrev pub ReadsNoFurther : ℕ → Option (List ℕ) → Option (List ℕ) → Type 0
ReadsNoFurther limit left rest = (bytes : List ℕ) × Consumes left rest bytes × (length bytes ≤ limit + 1)

-- Which turns of the gate a command's lanes or workers took.
-- Source: this project's own.
use Rattle.std.specs.Prelude.{◌≡◌, ◌≤◌, ℕ, List, Option, Some, None, Ok, IfSome, length}
use Rattle.mt_program.specs.Prelude.{TookTurns, Log, Listing, log_of, AllTurned, IsTurnedTrial, Command, Replay, Make, Trial, Verify, Image, Show, Bulk, Ids}
use Rattle.mt_program.specs.Headline.{IsListing}

-- the bytes are a log, each step of which was done by a lane that took both its turns
abbrev pub IsTurnedLog : (ℕ → ℕ → Type 0) → List ℕ → Type 0
IsTurnedLog passed bytes = (log : Log) × (log_of bytes ≡ Ok log) × AllTurned passed log.lines

-- the bytes are a listing, and if it has a range, each of this many workers took both of its turns
abbrev pub IsBuiltBy : (ℕ → ℕ → Type 0) → ℕ → List ℕ → Type 0
IsBuiltBy passed workers bytes = (l : Listing) × IsListing bytes l × (1 ≤ length l.ranges → TookTurns passed workers)

-- the turns of a command that reads these bytes: what has no lanes and no workers takes none
abbrev pub HasTurned : (ℕ → ℕ → Type 0) → Command → List ℕ → Type 0
HasTurned passed (Replay rows) bytes = IsTurnedLog passed bytes
HasTurned passed (Make number steps lanes) bytes = Unit {0}
HasTurned passed (Trial number steps) bytes = IsTurnedTrial passed number steps
HasTurned passed (Verify rows) bytes = Unit {0}
HasTurned passed (Image rows) bytes = IsTurnedLog passed bytes
HasTurned passed Show bytes = Unit {0}
HasTurned passed (Bulk workers) bytes = IsBuiltBy passed workers bytes
HasTurned passed (Ids lo hi steps drops) bytes = Unit {0}

-- `HasTurned` by the words, where they are a command, and the bytes that the source has left, if they are known
abbrev pub HaveTurned : (ℕ → ℕ → Type 0) → Option Command → Option (List ℕ) → Type 0
HaveTurned passed None left = Unit {0}
HaveTurned passed (Some (Replay rows)) left = IfSome left (IsTurnedLog passed)
HaveTurned passed (Some (Make number steps lanes)) left = Unit {0}
HaveTurned passed (Some (Trial number steps)) left = IsTurnedTrial passed number steps
HaveTurned passed (Some (Verify rows)) left = Unit {0}
HaveTurned passed (Some (Image rows)) left = IfSome left (IsTurnedLog passed)
HaveTurned passed (Some Show) left = Unit {0}
HaveTurned passed (Some (Bulk workers)) left = IfSome left (IsBuiltBy passed workers)
HaveTurned passed (Some (Ids lo hi steps drops)) left = Unit {0}

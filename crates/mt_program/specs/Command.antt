-- Which commands read the source, and how much of it.
use Rattle.std.specs.Prelude.{ℕ, Bool, true, false, Option, Some, None}
use Rattle.mt_program.specs.Prelude.{Command, Replay, Make, Trial, Verify, Image, Show, Bulk, Ids}

-- the words are a command that reads the source
abbrev pub reads : Option Command → Bool
reads None = false
reads (Some (Replay rows)) = true
reads (Some (Make number steps lanes)) = false
reads (Some (Trial number steps)) = false
reads (Some (Verify rows)) = true
reads (Some (Image rows)) = true
reads (Some Show) = true
reads (Some (Bulk workers)) = true
reads (Some (Ids lo hi steps drops)) = false

-- the most bytes that the input of a command may have: one that reads nothing has none
abbrev pub input_limit : Command → ℕ
input_limit (Replay rows) = 8388608
input_limit (Make number steps lanes) = 0
input_limit (Trial number steps) = 0
input_limit (Verify rows) = 67108864
input_limit (Image rows) = 8388608
input_limit Show = 67108864
input_limit (Bulk workers) = 8388608
input_limit (Ids lo hi steps drops) = 0

-- how many bytes are read for words that may be no command
abbrev pub longest : Option Command → ℕ
longest None = 0
longest (Some command) = input_limit command

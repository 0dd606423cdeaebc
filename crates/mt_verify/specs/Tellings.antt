-- How many calls and how many reads a transcript reports.
-- Source: this project's own.
use Rattle.std.specs.Prelude.{ℕ, Bool, true, false, length, filter}
use Rattle.mt_verify.specs.Prelude.{Item, Write, Said, Transcript}
use Rattle.mt_log.specs.declared.transcripts.Said.TheVariants as said

abbrev pub tells_call : Said → Bool
tells_call (said.Wrote call reply) = true
tells_call (said.Got lo hi value) = false
tells_call (said.Lawful count) = false
tells_call (said.Copied count) = false

abbrev pub tells_read : Said → Bool
tells_read (said.Wrote call reply) = false
tells_read (said.Got lo hi value) = true
tells_read (said.Lawful count) = false
tells_read (said.Copied count) = false

abbrev pub count_of_calls : Transcript → ℕ
count_of_calls t = length (filter (λ e. tells_call e.said) t.entries)

abbrev pub reads_told : Transcript → ℕ
reads_told t = length (filter (λ e. tells_read e.said) t.entries)

-- a line that asks for a call
abbrev pub asks_call : Item → Bool
asks_call (Write tree call) = true
asks_call item = false

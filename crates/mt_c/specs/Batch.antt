-- The results of playing a log for C, and of judging a transcript for it.
-- Source: this project's own; the kernel's include/uapi/asm-generic/errno-base.h and errno.h: E2BIG, ENOMEM, EINVAL, EDOM, ERANGE
-- and EBADMSG.
use Rattle.std.specs.Prelude.{◌≡◌, ◌⊎◌, ℕ, ◌<◌, ◌≤◌, ◌-◌, ◌^◌, List, ◌++◌, Ok, drop, length}
use Rattle.mt_c.specs.Prelude.{most_rows, Log, Transcript, log_of, IsRun, TellsRun, text_of, count_of_calls, reads_told}

-- ---- what is refused unread

-- the greatest number of bytes of a log, and of nodes of its trees
abbrev pub most_bytes : ℕ
most_bytes = 2 ^ 32 - 1

abbrev pub HaveRows : ℕ → Type 0
HaveRows rows = (4 ≤ rows) × (rows ≤ most_rows)

-- the numbers for nodes that are too few or too many, and for too many bytes
abbrev pub IsUnfit : ℕ → List ℕ → ℕ → Type 0
IsUnfit rows log status = ((status ≡ 33) × (HaveRows rows → ⊥)) ⊎ ((status ≡ 7) × (most_bytes < length log))

-- ---- replay

-- this is the text of a run of the log that these bytes are
abbrev pub IsTextOfRun : ℕ → List ℕ → List ℕ → Type 0
IsTextOfRun rows bytes text = (log : Log) × (log_of bytes ≡ Ok log) × TellsRun rows log text

-- the buffer begins with such a text of this many bytes, and is otherwise as before
abbrev pub WritesText : ℕ → List ℕ → List ℕ → List ℕ → ℕ → Type 0
WritesText rows bytes before after used = (text : List ℕ) × IsTextOfRun rows bytes text × (used ≡ length text) × (length text ≤ length before) × (after ≡ text ++ drop (length text) before)

-- such a text has this many bytes, and the buffer has fewer
abbrev pub IsBufferShort : ℕ → List ℕ → List ℕ → ℕ → Type 0
IsBufferShort rows bytes before used = (text : List ℕ) × IsTextOfRun rows bytes text × (used ≡ length text) × (length before < length text)

-- ---- verify

-- the bytes are a log, and the text is that of a run of it, which reports this many calls and reads
abbrev pub IsVerified : ℕ → List ℕ → List ℕ → ℕ → ℕ → Type 0
IsVerified rows bytes text calls reads =
    (log : Log) × (t : Transcript) × (log_of bytes ≡ Ok log) × IsRun log rows t × (text ≡ text_of t) × (calls ≡ count_of_calls t) × (reads ≡ reads_told t)

-- they are a log, and the text is of no run of it
abbrev pub IsNoRun : ℕ → List ℕ → List ℕ → Type 0
IsNoRun rows bytes text = (log : Log) × (log_of bytes ≡ Ok log) × (TellsRun rows log text → ⊥)

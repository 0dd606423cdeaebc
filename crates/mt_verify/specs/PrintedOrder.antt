-- The order of what a text reports, by call numbers and windows. It is tested before any map is made.
-- Source: this project's own.
use Rattle.std.specs.Prelude.{◌≡◌, ◌⊎◌, ℕ, ◌<◌, ◌≤◌, List, length}
use Rattle.mt_verify.specs.Prelude.{ToldLine, What, Wrote, Got, Copied, Lawful}
use Rattle.mt_verify.specs.ToldCalls.{calls_told}

-- Of two lines on one tree the later knows of the earlier where both are of one lane, or the earlier's phase is lower.
abbrev pub Knows : ToldLine → ToldLine → Type 0
Knows s t = (s.lane ≡ t.lane) ⊎ (s.phase < t.phase)

-- The later line keeps to the earlier: a call has a higher number than a call, and than the end of a read's window; a
-- read's window begins at a call's number or above, and no lower than another's.
abbrev pub KeepsTo : What → What → Type 0
KeepsTo (Wrote m c r) (Wrote n d s) = m < n
KeepsTo (Wrote m c r) (Got lo hi q a) = m ≤ lo
KeepsTo (Wrote m c r) (Copied count) = Unit {0}
KeepsTo (Wrote m c r) (Lawful count) = Unit {0}
KeepsTo (Got lo hi q a) (Wrote n d s) = hi < n
KeepsTo (Got lo hi q a) (Got lo' hi' q' a') = lo ≤ lo'
KeepsTo (Got lo hi q a) (Copied count) = Unit {0}
KeepsTo (Got lo hi q a) (Lawful count) = Unit {0}
KeepsTo (Copied count) other = Unit {0}
KeepsTo (Lawful count) other = Unit {0}

abbrev pub InPrintedOrder : ToldLine → ToldLine → Type 0
InPrintedOrder s t = s.tree ≡ t.tree → Knows s t → KeepsTo s.what t.what

-- ---- the ends of windows

-- a read's window ends within this many calls
abbrev pub EndsWithin : ℕ → What → Type 0
EndsWithin calls (Wrote number call reply) = Unit {0}
EndsWithin calls (Got lo hi query answer) = hi ≤ calls
EndsWithin calls (Copied count) = Unit {0}
EndsWithin calls (Lawful count) = Unit {0}

-- its window ends within the calls that the text reports on its tree
abbrev pub EndsInTree : List ToldLine → ToldLine → Type 0
EndsInTree told t = EndsWithin (length (calls_told t.tree told)) t.what

-- The order of steps without the numbers at which reads are true: what is tested before any map is made.
-- Source: this project's own.
use Rattle.std.specs.Prelude.{◌≡◌, ℕ, ◌+◌, ◌<◌, ◌≤◌, true, List, AllPairs, length, filter_map}
use Rattle.mt_verify.specs.Prelude.{Outcome, Called, Looked, Counted, Step, Knows, is_read, numbered_on}
use Rattle.mt_verify.specs.Points.{lo_of, read_number}

-- Of two outcomes on a tree the later keeps to the earlier by what is printed: call numbers and windows.
abbrev pub KeepsTo : Outcome → Outcome → Type 0
KeepsTo (Called m c r) (Called n d s) = m < n
KeepsTo (Called m c r) (Looked lo hi k q v) = m ≤ lo
KeepsTo (Called m c r) (Counted said ranges) = Unit {0}
KeepsTo (Looked lo hi k q v) (Called n c r) = hi < n
KeepsTo (Looked lo hi k q v) (Looked lo' hi' k' q' v') = lo ≤ lo'
KeepsTo (Looked lo hi k q v) (Counted said ranges) = Unit {0}
KeepsTo (Counted said ranges) other = Unit {0}

abbrev pub InPrintedOrder : Step → Step → Type 0
InPrintedOrder s t = s.tree ≡ t.tree → Knows s t → KeepsTo s.outcome t.outcome

-- of two reads the number of the later is no lower, and its window begins no more than one below the number of the
-- earlier
pub record NumbersRise (s t : Step) : Type 0 where
  pub rise : read_number s.outcome ≤ read_number t.outcome
  pub floor : read_number s.outcome ≤ lo_of t.outcome + 1

abbrev pub InNumbers : Step → Step → Type 0
InNumbers s t = s.tree ≡ t.tree → Knows s t → is_read s.outcome ≡ true → is_read t.outcome ≡ true → NumbersRise s t

-- both orders
pub record InBoth (steps : List Step) : Type 0 where
  pub printed : AllPairs InPrintedOrder steps
  pub numbers : AllPairs InNumbers steps

-- ---- the ends of windows

-- a read's window ends within this many calls
abbrev pub EndsWithin : ℕ → Outcome → Type 0
EndsWithin calls (Called number call reply) = Unit {0}
EndsWithin calls (Looked lo hi k query value) = hi ≤ calls
EndsWithin calls (Counted said ranges) = Unit {0}

-- its window ends within the calls of its tree
abbrev pub EndsInTree : List Step → Step → Type 0
EndsInTree steps s = EndsWithin (length (filter_map (numbered_on s.tree) steps)) s.outcome

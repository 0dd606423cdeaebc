-- How often a pass (a thread's handle) took a number and gave one back, by the history that it has seen. And what it gets when
-- it asks for a number, or gives one back, by the map before its call.
-- Source: this project's own.
use Rattle.std.specs.Prelude.{◌≡◌, ℕ, ◌+◌, ◌-◌, ◌==◌, ◌&&◌, Bool, true, false, is_some, List, [], ◌∷◌, Option, Some, None, Result, Ok, Err, if◌then◌else◌}
use Rattle.mt_base.specs.declared.calls.Call.{Call}
use Rattle.mt_base.specs.declared.calls.Call.TheVariants as calls
use Rattle.mt_base.specs.declared.replies.Reply.{Reply}
use Rattle.mt_base.specs.declared.replies.Reply.TheVariants as replies
use Rattle.mt_base.specs.declared.kinds.Kind.TheVariants as kinds
use Rattle.mt_base.specs.declared.ranges.Range.{Range}
use Rattle.mt_base.specs.Names.{Record, limits_after, map_at, low, holding, Limits, IsShort, Pass, Wrote, places, with_records}
use Rattle.mt_numbers.specs.declared.numbers.TheConstants.{NUMBERS}
use Rattle.mt_numbers.specs.declared.shared.TheConstants.{TAKEN}
use Rattle.mt_base.specs.declared.outcomes.Done.{Done}
use Rattle.mt_base.specs.declared.outcomes.Worn.{Worn}
use Rattle.mt_tree.specs.declared.trees.Tree.{Tree}
use Rattle.mt_tree.specs.Trees.{opened, IsWorn}

-- the number that was taken, where one was
abbrev pub number_taken : Reply → Option ℕ
number_taken (replies.Start number) = Some number
number_taken _ = None

abbrev pub started : Result Done Worn → Option ℕ
started (Ok d) = number_taken d.reply
started (Err w) = None

-- a number was given back
abbrev pub was_there : Reply → Bool
was_there (replies.Was range) = true
was_there _ = false

abbrev pub removed : Result Done Worn → Bool
removed (Ok d) = was_there d.reply
removed (Err w) = false

abbrev pub is_alloc : Call → Bool
is_alloc (calls.Alloc size min max entry) = true
is_alloc _ = false

abbrev pub is_erase : Call → Bool
is_erase (calls.Erase index) = true
is_erase _ = false

abbrev pub took_one : Record → Bool
took_one r = is_alloc r.call && is_some (number_taken r.reply)

abbrev pub gave_one : Record → Bool
gave_one r = is_erase r.call && was_there r.reply

-- how many of these calls are of the handle, and did so
abbrev pub count_of : (Record → Bool) → ℕ → List Record → ℕ
count_of test pass [] = 0
count_of test pass (r ∷ records) = (if (r.pass == pass) && test r then 1 else 0) + count_of test pass records

abbrev pub taken_by : Pass → ℕ
taken_by p = count_of took_one p.number p.seen

abbrev pub given_back_by : Pass → ℕ
given_back_by p = count_of gave_one p.number p.seen

-- the calls of the handle are those of its number in what it has seen
abbrev pub KnowsItsOwn : Pass → Type 0
KnowsItsOwn p = p.mine ≡ places p.number p.seen

-- ---- the answer to asking for a number, and to giving one back

-- a number is asked for: room for one index
abbrev pub asking : Call
asking = calls.Alloc 1 0 (NUMBERS - 1) TAKEN

-- the lowest of the numbers that is free in a map
abbrev pub lowest_free : List Range → Option ℕ
lowest_free m = low kinds.Alloc m 1 0 (NUMBERS - 1)

-- By a call's reply and the map before it, the answer is the lowest free number. It is none if none was free, or nodes were
-- short.
abbrev pub TellsLowest : Limits → List Range → Reply → Option ℕ → Type 0
TellsLowest l m (replies.Start number) told = (lowest_free m ≡ Some number) × (told ≡ Some number)
TellsLowest l m replies.Busy told = (lowest_free m ≡ None) × (told ≡ None)
TellsLowest l m (replies.NoNodes shortage) told = IsShort l m shortage × (told ≡ None)
TellsLowest l m _ told = ⊥

-- The answer is whether the number that is given back was taken; it is no if nodes were short.
abbrev pub TellsTaken : ℕ → Limits → List Range → Reply → Bool → Type 0
TellsTaken number l m (replies.Was range) told = (holding m number ≡ Some range) × (told ≡ true)
TellsTaken number l m replies.None told = (holding m number ≡ None) × (told ≡ false)
TellsTaken number l m (replies.NoNodes shortage) told = IsShort l m shortage × (told ≡ false)
TellsTaken number l m _ told = ⊥

-- the map before a call, by all that the handle has seen with this call
abbrev pub map_before : Tree → ℕ → Pass → List Range
map_before t number q = map_at (with_records (opened t) q.seen) (number - 1)

-- The handle made this call, and its answer is by the call's reply and the map before it. Or the tree had no call left, and the
-- answer says so.
abbrev pub IsAnsweredCall : (Limits → List Range → Reply → Type 0) → Type 0 → Tree → Pass → Call → Pass → Result Done Worn → Type 0
IsAnsweredCall told spent t p call q (Ok d) = Wrote (opened t) p d.call call d.reply q × told (limits_after (opened t) (d.call - 1)) (map_before t d.call q) d.reply
IsAnsweredCall told spent t p call q (Err w) = IsWorn t p w q × spent

-- a handle asked for a number by one call, and got this one
abbrev pub AskedForNumber : Tree → Pass → Option ℕ → Pass → Type 0
AskedForNumber t p told q = (answer : Result Done Worn) × IsAnsweredCall (λ l m reply. TellsLowest l m reply told) (told ≡ None) t p asking q answer

-- a handle gave a number back by one call, and the answer was whether it was taken
abbrev pub GaveBack : Tree → Pass → ℕ → Bool → Pass → Type 0
GaveBack t p number told q = (answer : Result Done Worn) × IsAnsweredCall (λ l m reply. TellsTaken number l m reply told) (told ≡ false) t p (calls.Erase number) q answer

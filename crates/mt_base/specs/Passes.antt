-- What a pass (a thread's handle on a tree) knows of the tree's one history, and what a call, a read, the lock and a settling
-- add to that.
-- Source: this project's own. No two handles are compared: each is compared with the history. Of `tree` all but the settling
-- reads only the kind, the number of nodes and the opening map.
use Rattle.std.specs.Prelude.{◌≡◌, ◌≢◌, ℕ, ◌+◌, ◌==◌, ◌<◌, ◌≤◌, nat_lt, max, List, [], ◌∷◌, ◌++◌, Option, Some, None, All, IfSome, length, slice_get, if◌then◌else◌, Contains}
use Rattle.mt_base.specs.declared.ranges.Range.{Range}
use Rattle.mt_base.specs.declared.calls.Call.{Call}
use Rattle.mt_base.specs.declared.calls.Query.{Query}
use Rattle.mt_base.specs.declared.replies.Reply.{Reply}
use Rattle.mt_base.specs.declared.replies.Reply.TheVariants as replies
use Rattle.mt_base.specs.declared.replies.Holder.{Holder}
use Rattle.mt_base.specs.History.{Record, History, IsLegal, IsTrueRead}

-- A handle: its number; the calls that it has seen, which begin the history; the numbers of its own calls among them. Then the
-- epochs at which it has opened read-side sections, and the epoch of the section that is open. Last the greatest number of
-- calls that it knows to have begun, and the greatest that it knows to have ended.
pub record Pass : Type 0 where
  pub number : ℕ
  pub seen : List Record
  pub mine : List ℕ
  pub opened : List ℕ
  pub standing : Option ℕ
  pub begun : ℕ
  pub ended : ℕ

-- a handle that has just been made
abbrev pub new_pass : ℕ → Pass
new_pass number = record { number = number; seen = []; mine = []; opened = []; standing = None; begun = 0; ended = 0 }

-- `all` begins with `firsts`
abbrev pub Begins : {X : Type 0} → List X → List X → Type 0
Begins {X} firsts all = (rest : List X) × (all ≡ firsts ++ rest)

-- the numbers of one handle's calls, if the first of these records has the number n
abbrev pub places_from : ℕ → ℕ → List Record → List ℕ
places_from n pass [] = []
places_from n pass (r ∷ records) = if r.pass == pass then n ∷ places_from (n + 1) pass records else places_from (n + 1) pass records

abbrev pub places : ℕ → List Record → List ℕ
places pass records = places_from 1 pass records

-- the tree with these calls; its kind, its nodes and its opening map stay
abbrev pub with_records : History → List Record → History
with_records tree records = record tree { records = records }

-- What a handle has seen is a legal history of its tree, and its own calls are those under its number.
pub record IsSound (tree : History) (p : Pass) : Type 0 where
  pub own : p.mine ≡ places p.number p.seen
  pub legal : IsLegal (with_records tree p.seen)

-- the reader that a refusal names, because its open section holds nodes back
abbrev pub holder_of : Reply → Option Holder
holder_of (replies.NoNodes shortage) = shortage.by
holder_of reply = None

-- The handle made this call. The call's number comes after all calls that the handle knew of. The call is then the last that
-- the handle has seen, and the one new call of its own. A handle without an open section is never named as the reader that
-- holds nodes back.
pub record Wrote (tree : History) (p : Pass) (number : ℕ) (call : Call) (reply : Reply) (q : Pass) : Type 0 where
  pub others : List Record
  pub pass : q ≡ record p { seen = (p.seen ++ others) ++ record { pass = p.number; call = call; reply = reply } ∷ []; mine = p.mine ++ number ∷ []; ended = number }
  pub last : number ≡ length (p.seen ++ others) + 1
  pub begun : p.begun < number
  pub ended : p.ended < number
  pub sound : IsSound tree q
  pub by : p.standing ≡ None → IfSome (holder_of reply) (λ holder. holder.pass ≢ p.number)

-- The handle made no call: what it knows only grew.
pub record Grows (p q : Pass) : Type 0 where
  pub number : q.number ≡ p.number
  pub seen : Begins p.seen q.seen
  pub mine : q.mine ≡ p.mine
  pub opened : Begins p.opened q.opened
  pub begun : p.begun ≤ q.begun
  pub ended : p.ended ≤ q.ended

-- The handle has now seen the whole history, all of whose calls have ended. Nothing else of it has changed.
pub record Saw (tree : History) (p q : Pass) : Type 0 where
  pub seen : Begins p.seen q.seen
  pub pass : q ≡ record p { seen = q.seen; ended = length q.seen }
  pub begun : p.begun ≤ length q.seen
  pub ended : p.ended ≤ length q.seen
  pub sound : IsSound tree q

-- the longer of two beginnings of one history
abbrev pub longer : List Record → List Record → List Record
longer seen told = if nat_lt (length seen) (length told) then told else seen

-- The handle learned the first calls of the history from another, and has now seen the longer of the two beginnings.
pub record Learned (tree : History) (p : Pass) (told : List Record) (q : Pass) : Type 0 where
  pub pass : q ≡ record p { seen = longer p.seen told }
  pub seen : Begins p.seen q.seen
  pub known : Begins told q.seen
  pub sound : IsSound tree q

-- The handle made this read. Its answer is that of version k, which is no older than what the handle had seen before. The
-- window begins no earlier than the calls that the handle knew to have ended, and ends within what it knows afterwards. Each
-- read says by itself which section it opened, and which is open.
pub record Read (tree : History) (p : Pass) (lo hi k : ℕ) (query : Query) (value : Option Range) (q : Pass) : Type 0 where
  pub grows : Grows p q
  pub true : IsTrueRead (with_records tree q.seen) k lo hi query value
  pub from : length p.seen ≤ k
  pub floor : length p.seen ≤ lo + 1
  pub before : p.ended ≤ lo
  pub lo_known : lo ≤ q.ended
  pub hi_known : hi ≤ max q.begun (length q.seen)
  pub sound : IsSound tree q

-- if a refusal names a reader, it is one of these handles, and has opened a section at that epoch
abbrev pub NamesReader : List Pass → Reply → Type 0
NamesReader passes reply = IfSome (holder_of reply) (λ holder. (q : Pass) × (slice_get passes holder.pass ≡ Some q) × Contains q.opened holder.epoch)

-- These are all handles of the tree, numbered from 0. Each has seen the whole history, and each call is of one of them.
pub record IsSettled (tree : History) (passes : List Pass) : Type 0 where
  pub numbered : (i : ℕ) (q : Pass) → slice_get passes i ≡ Some q → q.number ≡ i
  pub seen : All (λ q. q.seen ≡ tree.records) passes
  pub own : All (λ q. q.mine ≡ places q.number tree.records) passes
  pub theirs : All (λ r. r.pass < length passes) tree.records
  pub begun : All (λ q. q.begun ≤ length tree.records) passes
  pub ended : All (λ q. q.ended ≡ length tree.records) passes
  pub by : All (λ r. NamesReader passes r.reply) tree.records
  pub legal : IsLegal tree

-- The handles of the tree were settled one by one, each from what it knew before.
pub record Settled (tree : History) (before after : List Pass) : Type 0 where
  pub count : length after ≡ length before
  pub each : (i : ℕ) (p q : Pass) → slice_get before i ≡ Some p → slice_get after i ≡ Some q → Saw tree p q
  pub settled : IsSettled tree after

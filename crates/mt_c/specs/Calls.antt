-- What C gets of calls and of queries, and what they do to the tree that it keeps.
-- Source: the kernel's include/uapi/asm-generic/errno-base.h and errno.h: ENOENT, EBADF, ENOMEM, EBUSY, EEXIST, EINVAL
-- and EOVERFLOW.
use Rattle.std.specs.Prelude.{◌≡◌, ℕ, ◌<◌, ◌≤◌, ◌==◌, false, Option, Some, None, if◌then◌else◌}
use Rattle.mt_c.specs.Prelude.{Call, Query, Load, Range, Reply, Shortage, answer, map_by, OnlyReads, Parts, IsApplied, most_calls, entry_or_zero}
use Rattle.mt_base.specs.declared.replies.Reply.TheVariants as answers
use Rattle.mt_c.specs.Own.{OwnTree}
use Rattle.mt_c.specs.declared.told.OutRange.{OutRange}
use Rattle.mt_c.specs.declared.told.ToldCall.{ToldCall}

-- ---- numbers and answers

-- The number that C gets for a reply: 0, the error number of a refusal, or ENOENT where no range was there. Where the tree has had
-- all its calls, none was made, and that is EOVERFLOW.
abbrev pub status_of : Option Reply → ℕ
status_of None = 75
status_of (Some answers.Ok) = 0
status_of (Some (answers.Over entry)) = 0
status_of (Some (answers.Start start)) = 0
status_of (Some (answers.Was range)) = 0
status_of (Some answers.None) = 2
status_of (Some answers.Exists) = 17
status_of (Some answers.Invalid) = 22
status_of (Some answers.Busy) = 16
status_of (Some (answers.NoNodes shortage)) = 12

-- the one word of a reply, and 0 if it has none
abbrev pub word_in_c : Option Reply → ℕ
word_in_c (Some (answers.Over entry)) = entry
word_in_c (Some (answers.Start start)) = start
word_in_c told = 0

-- a range, and three zeros if there is none
abbrev pub no_range : OutRange
no_range = record { first = 0; last = 0; entry = 0 }

abbrev pub out_of : Option Range → OutRange
out_of None = no_range
out_of (Some r) = record { first = r.first; last = r.last; entry = r.entry }

abbrev pub range_out : Range → OutRange
range_out r = out_of (Some r)

-- the range of a reply
abbrev pub range_in_c : Option Reply → OutRange
range_in_c (Some (answers.Was range)) = out_of (Some range)
range_in_c told = no_range

-- how many nodes a reply for lack of nodes says are needed, free, live and held; zeros of another
abbrev pub no_shortage : Shortage
no_shortage = record { need = 0; free = 0; live = 0; held = 0; by = None }

abbrev pub shortage_of : Reply → Shortage
shortage_of (answers.NoNodes shortage) = shortage
shortage_of reply = no_shortage

-- all that C gets of a call
abbrev pub told_in_c : Option Reply → ToldCall
told_in_c made = record { status = status_of made; word = word_in_c made; range = range_in_c made }

-- and where it is closed
abbrev pub no_told : ToldCall
no_told = record { status = 9; word = 0; range = no_range }

-- the number for the answer of a query: ENOENT if there is none
abbrev pub found_status : Option Range → ℕ
found_status None = 2
found_status (Some r) = 0

-- the number for this many ranges of a walk that then goes on from this place: ENOENT if none was found and the walk has ended
abbrev pub many_status : ℕ → Option ℕ → ℕ
many_status count None = if count == 0 then 2 else 0
many_status count (Some next) = 0

-- ---- trees

-- A call was made, and this is the reply. No other reads the nodes, so that none is held back for it.
pub record IsCallMade (t t' : Parts) (call : Call) (reply : Reply) : Type 0 where
  pub alone : t.sheet.shared ≡ false
  pub few : t.sheet.ended < most_calls
  pub applied : IsApplied t.kind t.sheet t'.sheet t.book t'.book call reply
  pub kind : t'.kind ≡ t.kind

-- It was made, or the tree had had all its calls and is as before.
abbrev pub MadeOrSpent : Parts → Parts → Call → Option Reply → Type 0
MadeOrSpent t t' call None = (most_calls ≤ t.sheet.ended) × (t' ≡ t)
MadeOrSpent t t' call (Some reply) = IsCallMade t t' call reply

-- what a query is answered by the ranges of a tree
unfoldable pub answered : Parts → Query → Option Range
answered t query = answer (map_by t.sheet.tree) query

-- the tree was only read
pub record IsAsked (t t' : Parts) : Type 0 where
  pub rest : OnlyReads t.sheet t'.sheet
  pub book : t'.book ≡ t.book
  pub kind : t'.kind ≡ t.kind

-- ---- what C keeps

-- A call on what C keeps, the number that C gets, and what it gets beside that by some reading of the reply. A closed one is
-- EBADF, with a blank beside, and stays closed; an open one stays open.
abbrev pub AnswersCall : {A : Type 0} → A → (Option Reply → A) → Call → Option OwnTree → Option OwnTree → ℕ → A → Type 0
AnswersCall blank told call None after status out = (after ≡ None) × (status ≡ 9) × (out ≡ blank)
AnswersCall blank told call (Some t) None status out = ⊥
AnswersCall blank told call (Some t) (Some t') status out = (made : Option Reply) × MadeOrSpent t.engine t'.engine call made × (status ≡ status_of made) × (out ≡ told made)

-- one that returns the number alone, or a word, or a range beside
abbrev pub CalledAlone : Call → Option OwnTree → Option OwnTree → ℕ → Type 0
CalledAlone call before after status = AnswersCall {A = Unit {0}} tt (λ _. tt) call before after status tt

abbrev pub CalledWord : Call → Option OwnTree → Option OwnTree → ℕ → ℕ → Type 0
CalledWord = AnswersCall 0 word_in_c

abbrev pub CalledRange : Call → Option OwnTree → Option OwnTree → ℕ → OutRange → Type 0
CalledRange = AnswersCall no_range range_in_c

-- A query of what C keeps. A closed one is EBADF, and no range.
abbrev pub AnswersQuery : Query → Option OwnTree → Option OwnTree → ℕ → OutRange → Type 0
AnswersQuery query None after status out = (after ≡ None) × (status ≡ 9) × (out ≡ no_range)
AnswersQuery query (Some t) None status out = ⊥
AnswersQuery query (Some t) (Some t') status out =
    IsAsked t.engine t'.engine × (status ≡ found_status (answered t.engine query)) × (out ≡ out_of (answered t.engine query))

-- The entry that an index holds is returned: 0 if it lies in a hole, or the tree is closed.
abbrev pub EntryTold : ℕ → Option OwnTree → Option OwnTree → ℕ → Type 0
EntryTold index None after entry = (after ≡ None) × (entry ≡ 0)
EntryTold index (Some t) None entry = ⊥
EntryTold index (Some t) (Some t') entry = IsAsked t.engine t'.engine × (entry ≡ entry_or_zero (answered t.engine (Load index)))

-- What a user of a shared tree keeps of its last steps at the tree's lock and at the purse. Only such a step makes a value of
-- it.
-- Source: this project's own.
use Rattle.std.specs.Prelude.{ℕ, Some, None, Result, Ok, Err}
use Rattle.mt_c.specs.Prelude.{Given, Busy, Tree}
use Rattle.mt_c.specs.declared.purse.Purse.{Purse}
use Rattle.mt_c.specs.declared.receipts.Receipts.{Receipts}
use Rattle.mt_c.specs.declared.user_acts.Settling.{Settling}
use Rattle.mt_c.specs.declared.user_acts.Settling.TheVariants as settling
use Rattle.mt_c.specs.declared.user_opens.Unchanged.{Unchanged}
use Rattle.mt_c.specs.declared.user_opens.Unchanged.TheVariants as unchanged
use Rattle.mt_c.specs.Walkers.{Tried}

-- a user that is opened has none
abbrev pub no_receipts : Receipts
no_receipts = record { locked = None; looked = None; unpursed = None; given = None }

-- what it has when the purse was taken and given back so
abbrev pub when_given : Given Purse Tree → Receipts → Receipts
when_given given r = record r { given = Some given }

-- what it has when a try was made: the lock was found taken, or no more than before
abbrev pub when_tried : Tried → Receipts → Receipts
when_tried (Ok made) r = r
when_tried (Err busy) r = record r { locked = Some busy }

-- when it looked under the lock
abbrev pub when_synced : Result ℕ Busy → Receipts → Receipts
when_synced (Ok calls) r = r
when_synced (Err busy) r = record r { locked = Some busy }

-- when it was settled with the purse
abbrev pub when_settled : Result (ℕ × ℕ × Given Purse Tree) Settling → Receipts → Receipts
when_settled (Ok done) r = when_given done.2 r
when_settled (Err (settling.Unpursed busy)) r = record r { unpursed = Some busy }
when_settled (Err (settling.Locked busy given)) r = when_given given (record r { locked = Some busy })

-- when no user was opened, or none has left
abbrev pub when_unchanged : Unchanged → Receipts → Receipts
when_unchanged (unchanged.Busy busy) r = record r { unpursed = Some busy }
when_unchanged (unchanged.NoPlace given) r = when_given given r
when_unchanged (unchanged.NoMemory given) r = when_given given r

-- A tree of one thread may go to another thread, and so may a user of one that threads share: nothing that they own names the thread.
-- Source: this project's own.
use denote.RattleType.{RattleType}
use Rattle.std.proofs.Crossing as heap
use Rattle.mt_c.proofs.Prelude.{IsSend, view_send, sendable, declared_send, crosses, raw, Keyless, lone, Ptr, Option, Some, None, lies, kept_owns}
use Rattle.atomic_table.proofs.badge.Badge.TheSendSync as Badge
use Rattle.mt_base.proofs.kinds.Kind.TheSendSync as Kind
use Rattle.mt_engine.proofs.engine.Engine.TheSendSync as Engine
use Rattle.mt_engine.proofs.range_walk.RangeWalk.TheSendSync as RangeWalk
use Rattle.mt_keep.proofs.keep.Busy.TheSendSync as Unpursed
use Rattle.mt_keep.specs.contracts.keep.Given as given
use Rattle.mt_rows.proofs.row_widths.RowWidth.TheSendSync as RowWidth
use Rattle.mt_rows.proofs.rows.Scan.TheSendSync as Scan
use Rattle.mt_rows.proofs.words.Words.TheSendSync as Words
use Rattle.mt_rows.specs.contracts.fates.Fates as fated
use Rattle.mt_rows.specs.contracts.plain.PlainRows as rows
use Rattle.mt_rows.specs.contracts.plain.State as state
use Rattle.mt_rows.specs.contracts.reads.Reads as counted
use Rattle.mt_rule.proofs.busy.Busy.TheSendSync as Locked
use Rattle.mt_tree.specs.contracts.trees.Tree as shared
use Rattle.mt_c.proofs.purse.Common.TheSendSync as Common
use Rattle.mt_c.proofs.walker.Walker.TheSendSync as Walker
use Rattle.mt_c.specs.contracts.own_tree.OwnTree as tree
use Rattle.mt_c.specs.contracts.own_tree.OwnTree.TheInside as inside
use Rattle.mt_c.specs.contracts.purse.Purse as purse
use Rattle.mt_c.specs.contracts.receipts.Receipts as receipts
use Rattle.mt_c.specs.contracts.user.User as user

-- The count of reads and the fates of rows stand over a `Snapshot`, whose `Send` is in `crosses` alone, where no check of a struct's
-- fields looks. So what stands over them is shown here, up to the tree.
reads_sent : IsSend counted.the_row
reads_sent = search (sendable, crosses)

fates_sent : IsSend fated.the_row
fates_sent = search (sendable, crosses)

state_sent : IsSend state.the_row
state_sent = declared_send state.the_type (search (sendable, crosses, reads_sent, fates_sent, RowWidth.the_send, Words.the_send, Scan.the_send) depth 20)

rows_sent : IsSend rows.the_row
rows_sent = declared_send rows.the_type (state_sent, tt)

pub tree_sent : IsSend tree.the_row
tree_sent = view_send _ _ _ _ _ (declared_send inside.the_type (search (sendable, crosses, Engine.the_send, rows_sent, Kind.the_send, RangeWalk.the_send) depth 20))

-- A receipt of who gave the purse back stands over two snapshots, and so the same is shown up to the user.
given_sent : IsSend (given.the_row purse.the_row shared.the_row)
given_sent = declared_send (given.the_type purse.the_row shared.the_row) (search (sendable, crosses, Badge.the_send) depth 20)

receipts_sent : IsSend receipts.the_row
receipts_sent = declared_send receipts.the_type (search (sendable, crosses, Locked.the_send, Unpursed.the_send, given_sent) depth 20)

pub user_sent : IsSend user.the_row
user_sent = declared_send user.the_type (search (sendable, crosses, Common.the_send, Common.the_sync, Walker.the_send, Badge.the_send, receipts_sent) depth 20)

-- what C keeps of either is a box, and names no thread
pub kept_keyless : (R : RattleType) → IsSend R → (p : Ptr) (v : Option R.Denot) → Keyless (kept_owns R p v)
kept_keyless R sent p None = tt
kept_keyless R sent p (Some x) = (lies R sent p x, heap.frees.frees (record { memory = record { seal = tt } }) (raw (lone R.mir)) p)

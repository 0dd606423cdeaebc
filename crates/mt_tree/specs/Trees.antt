-- A tree that threads share, its passes (handles), and what its calls say of the words that its lock protects.
-- Source: this project's own; the kernel's struct maple_tree and its spinlock.
use Rattle.std.specs.Prelude.{◌≡◌, ◌≢◌, ◌⊎◌, ℕ, ◌+◌, ◌-◌, ◌^◌, ◌≤◌, ◌<◌, Option, Some, None, IfSome, List, [], ◌∷◌, All, length, map, slice_get, take}
use Rattle.std.specs.List.{range_with_len}
use Rattle.atomic_table.specs.declared.shared.Seat.{Seat}
use Rattle.mt_tree.specs.Prelude.{Call, Range, Holder, Reply, Shortage, acted, History, Record, last_map, limits_after, IsRefused, IsShort, Wants, holder_of, with_records, new_pass, TellsBook, HasRoom, after_reclaim, Scan, IsRealShortage, map_by, Note, TurnView, IsScanOf, records_of, Identity, identity_of, tree_in, turn_seat, IsSeatedAt, IsTakenOf, tried, Done, Worn}
use Rattle.mt_base.specs.Passes as known
pub use Rattle.mt_rule.specs.declared.passes.Pass.{Pass}
use Rattle.mt_rule.specs.Tokens as rule
pub use Rattle.mt_rule.specs.Tokens.{pass_in, steps_made}
use Rattle.mt_tree.specs.declared.shapes.Shape.{Shape}
use Rattle.mt_tree.specs.declared.trees.Tree.{Tree}
use Rattle.mt_tree.specs.Behind.{Behind, IsPenAtRest}

abbrev pub place_of : Tree → Identity
place_of t = identity_of t.table

-- the tree as it opened: its kind, its nodes and its opening map, and no call
abbrev pub opened : Tree → History
opened t = tree_in (place_of t)

-- how many handles it has, and how many calls it may have
abbrev pub passes_of : Tree → ℕ
passes_of t = (place_of t).shape.passes

abbrev pub limit_of : Tree → ℕ
limit_of t = (place_of t).shape.calls

-- The handle is one of this tree's.
pub record IsPassOf (t : Tree) (p : Pass) : Type 0 where
  pub of : rule.IsPassOf (place_of t) p
  pub seated : IsSeatedAt t.turn.table.shared.table_id t.turn.table.shared.key p

abbrev pub IsNoteOf : Tree → Note → Type 0
IsNoteOf t n = rule.IsNoteOf (place_of t) n

-- ---- steps without the lock, and tries

-- The handle has made at most this many steps without the lock, and has not gone for the lock.
pub record Takes (most : ℕ) (p q : Pass) : Type 0 where
  pub steps : steps_made q ≤ steps_made p + most
  pub turn : turn_seat q ≡ turn_seat p

-- The handle has made no step without the lock, and has not gone for the lock.
pub record Rests (p q : Pass) : Type 0 where
  pub steps : steps_made q ≡ steps_made p
  pub turn : turn_seat q ≡ turn_seat p

-- The handle has gone for the lock once, by a try or by waiting, and has made no step without it.
pub record TriesOnce (p q : Pass) : Type 0 where
  pub steps : steps_made q ≡ steps_made p
  pub turn : turn_seat q ≡ turn_seat (tried p)

-- These are all handles of the tree, in the order of their numbers.
pub record AreAll (t : Tree) (ps : List Pass) : Type 0 where
  pub count : length ps ≡ passes_of t
  pub of : All (IsPassOf t) ps
  pub numbered : (i : ℕ) (p : Pass) → slice_get ps i ≡ Some p → (pass_in p).number ≡ i

-- the tree with the calls that the first of these handles has seen
abbrev pub seen_by : Tree → List known.Pass → History
seen_by t [] = opened t
seen_by t (p ∷ ps) = with_records (opened t) p.seen

-- the map after all that a handle has seen
abbrev pub map_seen : Tree → known.Pass → List Range
map_seen t p = last_map (with_records (opened t) p.seen)

-- The tree has as many calls as it may have. The handle has then seen them all, and made none of them now.
pub record IsWorn (t : Tree) (p : known.Pass) (w : Worn) (q : known.Pass) : Type 0 where
  pub calls : w.calls ≡ limit_of t
  pub all : length q.seen ≡ limit_of t
  pub saw : known.Saw (opened t) p q

-- A new tree that opens with this map and has no call, and its handles, numbered from 0, which have seen nothing.
pub record IsNew (shape : Shape) (opening : List Range) (t : Tree) (ps : List Pass) : Type 0 where
  pub tree : opened t ≡ record { kind = shape.kind; rows = shape.rows; opening = opening; records = [] }
  pub calls : limit_of t ≡ shape.calls
  pub all : AreAll t ps
  pub passes : map pass_in ps ≡ map new_pass (range_with_len 0 shape.passes)

-- The value that the lock protects is taken, and the handle has seen the whole history.
pub record IsOpen (t : Tree) (p : Pass) (behind : Behind) (seat : Seat (Option Behind) TurnView) : Type 0 where
  pub of : IsPassOf t p
  pub table : behind.table ≡ place_of t
  pub taken : IsTakenOf t.turn.table.shared.table_id t.turn.table.shared.key seat
  pub seen : (pass_in p).seen ≡ records_of behind.pen.history
  pub ended : (pass_in p).ended ≡ length (pass_in p).seen

-- whoever is named as holding nodes back is a handle of the tree
abbrev pub NamesPass : Tree → Reply → Type 0
NamesPass t reply = IfSome (holder_of reply) (λ holder. holder.pass < passes_of t)

-- The section words were scanned, as those loaded last show, and the held (retired) nodes that died up to the least epoch are
-- free. That is the epoch of the holder that the scan found, a handle of the tree, and the greatest number if no section is
-- open. All words, and the history, are as they were.
pub record WasPrepared (t : Tree) (b b' : Behind) : Type 0 where
  pub table : b'.table ≡ b.table
  pub records : records_of b'.pen.history ≡ records_of b.pen.history
  pub kind : b'.parts.kind ≡ b.parts.kind
  pub sheet : b'.parts.sheet ≡ record b.parts.sheet { cleared = b'.parts.sheet.cleared }
  pub rises : b.parts.sheet.cleared ≤ b'.parts.sheet.cleared
  pub scan : Scan
  pub scanned : IsScanOf b'.pen.sections (passes_of t) scan
  pub least : ((scan.by ≡ None) × (scan.least ≡ 2 ^ 64 - 1)) ⊎ ((holder : Holder) × (scan.by ≡ Some holder) × (scan.least ≡ holder.epoch))
  pub of : IfSome scan.by (λ holder. holder.pass < passes_of t)
  pub freed : b'.parts.book ≡ after_reclaim b.parts.book scan.least

-- Too few nodes are free for a store after all that the handle has seen, once the held nodes were freed. The shortage has the
-- height and the numbers of the book, and names whose section holds nodes back, as the same scan found it. It names no section
-- of the handle itself if that has none open.
pub record IsShortNow (t : Tree) (p : known.Pass) (b b' : Behind) (shortage : Shortage) : Type 0 where
  pub short : IsShort (limits_after (opened t) (length p.seen)) (map_seen t p) shortage
  pub prepared : WasPrepared t b b'
  pub counted : IsRealShortage (record b'.parts.sheet { scan = prepared.scan }) shortage
  pub tells : TellsBook b'.parts.book shortage
  pub by : p.standing ≡ None → IfSome shortage.by (λ holder. holder.pass ≢ p.number)

-- ---- how a call is answered by what the lock protects

-- This is what the lock of the tree protects after these calls. No call is in flight. The words, whose numbers the book has,
-- are well-formed and represent the map then.
pub record LiesBehind (t : Tree) (calls : List Record) (b : Behind) : Type 0 where
  pub table : b.table ≡ place_of t
  pub shape : b.pen.shape ≡ (place_of t).shape
  pub records : records_of b.pen.history ≡ calls
  pub height : ℕ
  pub kept : IsPenAtRest b.pen b.parts height

-- the call makes the words what it says, and is answered so
abbrev pub Acts : Behind → Behind → Call → Reply → Type 0
Acts b b' call reply = acted b.parts.kind (map_by b.parts.sheet.tree) call ≡ (map_by b'.parts.sheet.tree, reply)

-- nodes enough are free for any call, when the held ones were freed that no section holds, as the scan found
abbrev pub LeavesRoom : Scan → Behind → Type 0
LeavesRoom scan b = HasRoom b.parts.sheet.tree (after_reclaim b.parts.book scan.least)

-- The call is refused because nodes are short. The shortage has the height and the numbers of the book, once the held nodes
-- were freed, and names whose section holds nodes back, as the scan found it. All words are as they were.
pub record LacksRows (t : Tree) (b b' : Behind) (scan : Scan) (call : Call) (reply : Reply) : Type 0 where
  pub refused : IsRefused b.parts.kind (limits_after (opened t) (length b.pen.history)) (map_by b.parts.sheet.tree) call reply
  pub counted : IsRealShortage (record b'.parts.sheet { scan = scan }) refused.shortage
  pub tells : TellsBook (after_reclaim b.parts.book scan.least) refused.shortage
  pub kept : b'.parts.sheet.tree ≡ b.parts.sheet.tree

-- The section words were scanned for the call, as those show that were loaded last. It is made where the scan leaves room, and
-- only there; else it is refused.
pub record IsDecided (t : Tree) (b b' : Behind) (call : Call) (reply : Reply) : Type 0 where
  pub scan : Scan
  pub scanned : IsScanOf b'.pen.sections (passes_of t) scan
  pub room : LeavesRoom scan b → Acts b b' call reply
  pub lacks : ¬ LeavesRoom scan b → LacksRows t b b' scan call reply

-- A call that needs nodes is decided by how many are free. Any other is made, and no section word is loaded for it.
pub record IsDecidedOrMade (t : Tree) (b b' : Behind) (call : Call) (reply : Reply) : Type 0 where
  pub wants : Wants b.parts.kind (map_by b.parts.sheet.tree) call → IsDecided t b b' call reply
  pub calm : ¬ Wants b.parts.kind (map_by b.parts.sheet.tree) call → Acts b b' call reply × (b'.pen.sections ≡ [])

-- The call, the last that the handle has seen, was answered by what the lock protected after the calls before it, and left
-- this.
pub record WasAnsweredBy (t : Tree) (q : known.Pass) (b b' : Behind) (call : Call) (d : Done) : Type 0 where
  pub before : LiesBehind t (take (d.call - 1) q.seen) b
  pub after : LiesBehind t q.seen b'
  pub answer : IsDecidedOrMade t b b' call d.reply

abbrev pub WasAnswered : Tree → known.Pass → Call → Done → Type 0
WasAnswered t q call d = (b : Behind) × (b' : Behind) × WasAnsweredBy t q b b' call d

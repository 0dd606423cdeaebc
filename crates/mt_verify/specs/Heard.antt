-- What is heard of a call that was refused for lack of nodes, and who may have held nodes.
-- Source: this project's own.
use Rattle.std.specs.Prelude.{◌≡◌, ◌≢◌, ◌↔◌, ℕ, ◌+◌, ◌*◌, ◌==◌, ◌&&◌, ◌<◌, ◌≤◌, ◌^◌, Bool, true, false, List, Option, None, IsSome, IfSome, IsSomeAnd, nat_le, slice_index_or, decimal}
use Rattle.std.specs.List.{list_any}
use Rattle.mt_verify.specs.Prelude.{Shortage, NoNodes, reply_text, most_trees, ToldLine, What, Wrote, Got, Copied, Lawful, most_lanes}
use Rattle.mt_verify.specs.declared.calls.Numbered.{Numbered}
use Rattle.mt_verify.specs.declared.heard.Readers.{Readers}
use Rattle.mt_verify.specs.ToldReads.{is_got}

-- the line reports that this lane read this tree, in a phase that was not later
abbrev pub reads_by : ℕ → ℕ → ℕ → ToldLine → Bool
reads_by tree lane phase r = (r.lane == lane) && ((r.tree == tree) && (nat_le r.phase phase && is_got r.what))

-- another lane than a call's, which read the tree in a phase that was not later
pub record IsReader (told : List ToldLine) (tree : ℕ) (call : Numbered) (lane : ℕ) : Type 0 where
  pub other : lane ≢ call.lane
  pub reads : list_any (reads_by tree lane call.phase) told ≡ true

-- ---- a shortage

-- its numbers are of 64 bits
pub record IsSmallShortage (s : Shortage) : Type 0 where
  pub need : s.need < 2 ^ 64
  pub free : s.free < 2 ^ 64
  pub live : s.live < 2 ^ 64
  pub held : s.held < 2 ^ 64

-- the text is this number, and no other below 2^64
pub record IsNumberAlone (text : List ℕ) (number : ℕ) : Type 0 where
  pub printed : text ≡ decimal number
  pub only : (n : ℕ) → n < 2 ^ 64 → text ≡ decimal n → n ≡ number

-- how it is printed, by a log of any version
abbrev pub shortage_printed : Shortage → List ℕ
shortage_printed s = reply_text 2 (NoNodes s)

-- the text says these numbers, and they are the only ones that it says
pub record SaysShortage (text : List ℕ) (s : Shortage) : Type 0 where
  pub printed : text ≡ shortage_printed s
  pub none : s.by ≡ None
  pub only : (other : Shortage) → IsSmallShortage other → text ≡ shortage_printed other → other.held ≡ s.held

-- The reply in the text is this shortage. If nodes were held, and only then, a reader is named: another lane that had read the
-- tree.
pub record IsToldShortage (told : List ToldLine) (tree : ℕ) (call : Numbered) (s : Shortage) : Type 0 where
  pub printed : call.reply.now ≡ shortage_printed s
  pub some : IsSome s.by ↔ (0 < s.held)
  pub by : IfSome s.by (λ holder. IsReader told tree call holder.pass)

-- what is heard of it: someone who read before any call is named
pub record IsHeard (told : List ToldLine) (tree : ℕ) (call : Numbered) (s : Shortage) : Type 0 where
  pub is : IsToldShortage told tree call s
  pub epoch : IfSome s.by (λ holder. holder.epoch ≡ 0)

-- ---- the first phases in which lanes read trees

abbrev pub HasReadBy : Option ℕ → ℕ → Type 0
HasReadBy first phase = IsSomeAnd first (λ p. p ≤ phase)

-- each lane has read a tree by a phase exactly where its first phase there is that one or lower
abbrev pub AreReaders : Readers → List ToldLine → Type 0
AreReaders readers told = (tree lane phase : ℕ) (other : Option ℕ) → tree < most_trees → lane < most_lanes
    → HasReadBy (slice_index_or readers.first (16 * tree + lane) other) phase
    ↔ (list_any (reads_by tree lane phase) told ≡ true)

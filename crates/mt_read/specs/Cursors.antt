-- What a cursor keeps from step to step, and what a step does to a pass (handle).
-- Source: the kernel's documentation of the maple tree, mas_find, which goes on from the node that it is at, and mas_pause.
use Rattle.std.specs.Prelude.{◌≡◌, ◌≢◌, ◌⊎◌, ℕ, ◌+◌, ◌<◌, ◌≤◌, List, [], ◌∷◌, ◌++◌, Option, Some, None, IfSome, length}
use Rattle.mt_read.specs.Prelude.{PassPart, HasBecome, here, opened_section, with_seen, Identity, IsPassOf, Stepped, part_of}
use Rattle.mt_base.specs.Passes as known
use Rattle.mt_read.specs.declared.cursor.KeptLeaf.{KeptLeaf}
use Rattle.mt_read.specs.declared.cursor.Cursor.{Cursor}
use Rattle.mt_rule.specs.declared.passes.Pass.{Pass}
use Rattle.mt_read.specs.Walks.{GoesOnTo, IsOnLeaf}

-- ---- the leaf

-- The section is at the leaf. This many calls had ended before the walk that reached it.
pub record IsOnKeptLeaf (q : PassPart) (kept : KeptLeaf) : Type 0 where
  pub leaf : IsOnLeaf q kept.leaf
  pub lo : kept.lo ≤ (here q).since

-- A range may be looked for from the leaf that is kept, if one is: a section of the handle is open, and is at the leaf. So many
-- calls had ended before.
pub record MayStepOn (t : Identity) (p : Pass) (ended : ℕ) (kept_leaf : Option KeptLeaf) : Type 0 where
  pub pass : IsPassOf t p
  pub opened : (part_of p).standing ≢ None
  pub kept : IfSome kept_leaf (IsOnKeptLeaf (part_of p))
  pub lo : ended ≤ length (part_of p).seen

-- The handle has gone on in its section, from the leaf that was kept to the one that is kept now, which it may have walked to.
pub record GoesKept (t : Identity) (ended : ℕ) (before after : Option KeptLeaf) (p p' : Pass) : Type 0 where
  pub stepped : Stepped t p p'
  pub goes : GoesOnTo (part_of p) (part_of p') (part_of p').marks
  pub kept : IfSome after (IsOnKeptLeaf (part_of p'))
  pub lo : (after ≡ before) ⊎ IfSome after (λ kept. kept.lo ≡ ended)

-- a leaf is kept, and covers the index
abbrev pub IsOver : Option KeptLeaf → ℕ → Type 0
IsOver None index = ⊥
IsOver (Some kept) index = (kept.leaf.min ≤ index) × (index ≤ kept.leaf.max)

abbrev pub IsOverPlace : Option KeptLeaf → Option ℕ → Type 0
IsOverPlace leaf None = ⊥
IsOverPlace leaf (Some index) = IsOver leaf index

abbrev pub kept_lo : Option KeptLeaf → ℕ
kept_lo None = 0
kept_lo (Some kept) = kept.lo

abbrev pub row_of : Option KeptLeaf → ℕ
row_of None = 0
row_of (Some kept) = kept.leaf.at.number

-- The kept leaf covers the place, and the handle has loaded its dead mark and no other: more than `lo` calls have begun, and it
-- now knows of `begun`.
pub record LeafWasMarked (leaf : Option KeptLeaf) (at : Option ℕ) (begun : ℕ) (q q' : PassPart) : Type 0 where
  pub over : IsOverPlace leaf at
  pub marks : q'.marks ≡ row_of leaf ∷ q.marks
  pub later : kept_lo leaf < begun

-- the dead marks that the handle has loaded are as before, or the kept leaf's is one more
abbrev pub MarksKeptLeaf : Option KeptLeaf → Option ℕ → ℕ → PassPart → PassPart → Type 0
MarksKeptLeaf leaf at begun q q' = (q'.marks ≡ q.marks) ⊎ LeafWasMarked leaf at begun q q'

-- ---- cursors

-- The cursor is of this handle: its section is open, and is at the leaf that it keeps. It keeps none without a section.
pub record IsCursorOf (q : PassPart) (c : Cursor) : Type 0 where
  pub standing : IfSome c.epoch (λ epoch. q.standing ≡ Some epoch)
  pub leaf : IfSome c.leaf (IsOnKeptLeaf q)
  pub closed : c.epoch ≡ None → c.leaf ≡ None

-- the epoch of the section that a step reads in, where `lo` calls had ended before it
abbrev pub epoch_or : Option ℕ → ℕ → ℕ
epoch_or None lo = lo
epoch_or (Some epoch) lo = epoch

-- the epochs of the handle's sections then: a step opens one only if none is open
abbrev pub epochs_opened : Option ℕ → List ℕ → ℕ → List ℕ
epochs_opened None opened lo = opened ++ lo ∷ []
epochs_opened (Some epoch) opened lo = opened

-- a section that was not open is opened
abbrev pub resumed_section : Option ℕ → PassPart → PassPart
resumed_section None q = opened_section q
resumed_section (Some epoch) q = q

-- The number of ended calls was loaded. The handle has seen all of these, and at most one more. The section is open then.
pub record Resumed (lo : ℕ) (epoch : Option ℕ) (q q' : PassPart) : Type 0 where
  pub is : HasBecome q' (resumed_section epoch (record (with_seen q q'.seen) { epoch = lo; ended = lo }))
  pub seen : known.Begins q.seen q'.seen
  pub before : q.ended ≤ lo
  pub most : lo ≤ length q'.seen
  pub least : length q'.seen ≤ lo + 1

-- The handle has made a step of a cursor whose section had this epoch, if it was open. It is now open, and the handle knows
-- that hi calls have begun and lo have ended.
pub record HasStepped (lo hi : ℕ) (epoch : Option ℕ) (p q : known.Pass) : Type 0 where
  pub seen : known.Begins p.seen q.seen
  pub pass : q ≡ record p { seen = q.seen; opened = epochs_opened epoch p.opened lo; standing = Some (epoch_or epoch lo); begun = hi; ended = lo }
  pub window : (lo ≤ length q.seen) × (length q.seen ≤ hi)

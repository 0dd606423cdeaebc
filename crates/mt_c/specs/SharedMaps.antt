-- Shared trees that open with a map.
-- Source: this project's own; the kernel's lib/maple_tree.c, mtree_dup.
use Rattle.std.specs.Prelude.{◌≡◌, ◌⊎◌, ℕ, ◌<◌, List, Option, Some, None}
use Rattle.mt_c.specs.Prelude.{Kind, Range, map_by, Rooted, DupError, Shape, live_rows, first_bad}
use Rattle.mt_tree.specs.declared.shapes.DupError.TheVariants as errors
use Rattle.mt_c.specs.declared.user.User.{User}
use Rattle.mt_c.specs.declared.user_handle.UserHandle.{UserHandle}
use Rattle.mt_c.specs.Calls.{IsAsked}
use Rattle.mt_c.specs.Own.{OwnTree}
use Rattle.mt_c.specs.Shared.{IsBadShape, IsFirstUser, OnClosed, field_status}

-- the first user of a tree of this shape, which is in range, with this map
abbrev pub IsFirstWith : Shape → List Range → User → Type 0
IsFirstWith shape m u = (first_bad shape ≡ None) × IsFirstUser shape m u

-- Why there is none with the map of these words: the number of the first field that is out of range; or, of a shape in range,
-- EDOM if the nodes are fewer than these have in use, or ENOMEM.
abbrev pub LacksWith : Shape → Rooted → ℕ → Type 0
LacksWith shape words status = IsBadShape shape status ⊎ ((first_bad shape ≡ None) × (((status ≡ 33) × (shape.rows < live_rows words)) ⊎ (status ≡ 12)))

-- the number for why none is made: a tree of the shape's own kind is never refused for the kind
abbrev pub dup_status : DupError → ℕ
dup_status (errors.BadShape field) = field_status field
dup_status errors.Invalid = 22
dup_status (errors.NoNodes rows live) = 33
dup_status errors.NoMemory = 12

-- A user is opened so, or the number says why none is.
abbrev pub OpensWith : Shape → Rooted → Option User → ℕ → Type 0
OpensWith shape words (Some u) status = (status ≡ 0) × IsFirstWith shape (map_by words) u
OpensWith shape words None status = LacksWith shape words status

abbrev pub OpensFirst : Shape → Rooted → UserHandle → UserHandle → ℕ → Type 0
OpensFirst shape words other other' status = OnClosed other other' status (OpensWith shape words other'.kept.value status)

-- a shape of the kind of a tree
abbrev pub shape_for : Kind → ℕ → ℕ → ℕ → Shape
shape_for kind rows passes calls = record { kind = kind; rows = rows; passes = passes; calls = calls }

-- A shared tree opens with the map of a tree of one thread, which is only read. A closed one is EBADF, and the user is as it was.
abbrev pub SharedOfTree : ℕ → ℕ → ℕ → Option OwnTree → Option OwnTree → UserHandle → UserHandle → ℕ → Type 0
SharedOfTree rows passes calls None after other other' status = (after ≡ None) × (other' ≡ other) × (status ≡ 9)
SharedOfTree rows passes calls (Some t) None other other' status = ⊥
SharedOfTree rows passes calls (Some t) (Some t') other other' status =
    IsAsked t.engine t'.engine × OpensFirst (shape_for t.engine.kind rows passes calls) t.engine.sheet.tree other other' status

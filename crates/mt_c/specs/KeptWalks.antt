-- A walk that is kept beside its pass (handle).
-- Source: the kernel's documentation of the maple tree, mas_find over a struct ma_state that the caller keeps.
use Rattle.std.specs.Prelude.{◌≡◌, ◌-◌, ◌^◌, ℕ, Option, Some, None, IfSome}
use Rattle.std.proofs.Props.{props}
use Rattle.std.specs.Coded.{Coded, Unit-prop, prop_coded}
use Rattle.mt_c.specs.Prelude.{Cursor, Pass, apart_prop, ends_prop, fills_prop, IsWalkOf}

-- walks go on to the last index
abbrev pub last_index : ℕ
last_index = 2 ^ 64 - 1

-- the walk is of this handle, up to the last index
pub record IsKeptWalk (p : Pass) (w : Cursor) : Type 0 where
  pub of : IsWalkOf p w
  pub max : w.max ≡ last_index

-- that it is can hold in one way alone, so a walker can keep it
pub walk_prop : (p : Pass) (w : Cursor) → IsProp (IsKeptWalk p w)
walk_prop p w = Prim.hlevel (props, fills_prop, apart_prop, ends_prop)

pub walks_prop : (p : Pass) (walk : Option Cursor) → IsProp (IfSome walk (IsKeptWalk p))
walks_prop p None = Unit-prop
walks_prop p (Some w) = walk_prop p w

pub walks_coded : (p : Pass) (walk : Option Cursor) → Coded (IfSome walk (IsKeptWalk p))
walks_coded p walk = prop_coded (walks_prop p walk)

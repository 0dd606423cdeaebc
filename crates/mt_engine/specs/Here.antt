-- What is at an index of a tree: nothing in the empty tree, else a range, or the whole hole around the index.
-- Source: the kernel's struct ma_state after a walk, whose index and last are those of the entry or of the hole.
use Rattle.std.specs.Prelude.{◌≡◌, ◌↔◌, ℕ, Option, Some, None, IsNone, IfSome}
use Rattle.mt_engine.specs.Prelude.{Rooted, Handle, handle_in}

pub record IsHereAt (t : Rooted) (index : ℕ) (here : Option Handle) : Type 0 where
  pub none : IsNone here ↔ (t.root ≡ 0)
  pub some : IfSome here (λ handle. handle ≡ handle_in t index)

-- what is at an index, and nothing if there is no index
abbrev pub IsHereIf : Rooted → Option ℕ → Option Handle → Type 0
IsHereIf t None here = here ≡ None
IsHereIf t (Some index) here = IsHereAt t index here

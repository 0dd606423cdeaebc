-- The empty trees that the lines of a phase declare, which are made before the lines are gone through.
-- Source: this project's own.
use Rattle.std.specs.Prelude.{◌≡◌, ℕ, IfOk, List, [], ◌∷◌, Result, length, map, take, Vec, flat_map}
use Rattle.std.specs.Global.{Global}
use Rattle.mt_replay.specs.Prelude.{Kind, Pass, Item, Tree, Line, SharedTree}
use Rattle.mt_replay.specs.Trees.{AreAll, IsNewTree}

-- the kind of the empty tree that a line declares, if it declares one
abbrev pub declared_kind : Item → List Kind
declared_kind (Tree name kind) = kind ∷ []
declared_kind item = []

-- the kinds of those that these lines declare, in their order
abbrev pub kinds_in : List Line → List Kind
kinds_in lines = flat_map (λ line. declared_kind line.item) lines

module _ {P T : Type 0} (tree : T → SharedTree) (knows : P → Pass) (serves : T → P → Type 0) (many : T → ℕ) (rows passes : ℕ) where
  -- a new empty tree of this kind, with this many nodes, and all its passes (handles)
  pub record IsMade (kind : Kind) (made : T × Vec P Global) : Type 0 where
    pub new : IsNewTree kind rows [] passes (tree made.0) (map knows made.1.items)
    pub all : AreAll knows serves passes made.0 made.1.items
    pub many_are : many made.0 ≡ passes

  -- a tree of each of these kinds, in their order, or that memory ran out for it
  abbrev pub AreMade : {E : Type 0} → List Kind → List (Result (T × Vec P Global) E) → Type 0
  AreMade [] [] = Unit {0}
  AreMade [] (m ∷ made) = ⊥
  AreMade (kind ∷ kinds) [] = ⊥
  AreMade (kind ∷ kinds) (m ∷ made) = IfOk m (IsMade kind) × AreMade kinds made

  -- the first of these are so
  abbrev pub BeginAs : {E : Type 0} → List Kind → List (Result (T × Vec P Global) E) → Type 0
  BeginAs kinds made = AreMade kinds (take (length kinds) made)

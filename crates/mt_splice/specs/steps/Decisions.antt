-- How a replacement goes on at a level.
-- Source: the kernel's lib/maple_tree.c, mas_spanning_rebalance, which goes up until one node takes the place of one.
use Rattle.std.specs.Prelude.{◌≡◌, ◌⊎◌, ℕ, ◌<◌, List, [], ◌∷◌, map}
use Rattle.mt_splice.specs.Prelude.{Width, greatest, Item, RowKind, Leaf, PathStep, step_at}
use Rattle.mt_splice.specs.declared.decisions.Next.{Next}
use Rattle.mt_splice.specs.declared.decisions.Next.TheVariants.{Empty, Root, RootAbove, Slot, Up}

-- the words of items
abbrev pub item_words : List Item → List ℕ
item_words items = map (λ (x : Item). x.word) items

-- the nodes of a level from the left path's to the right path's cover every index
pub record StandForAll (width : Width) (left right : List PathStep) (depth : ℕ) : Type 0 where
  pub first : (step_at left depth).min ≡ 0
  pub last : (step_at right depth).max ≡ greatest width

-- the leaves should hold only one hole of every index
pub record IsNothing (width : Width) (left right : List PathStep) (depth : ℕ) (kind : RowKind) (items : List Item) : Type 0 where
  pub leaf : kind ≡ Leaf
  pub all : StandForAll width left right depth
  pub hole : item_words items ≡ 0 ∷ []

-- one new node covers every index, or takes the place of one node; or the root was replaced
abbrev pub EndsHere : Width → List PathStep → List PathStep → ℕ → ℕ → Type 0
EndsHere width left right depth pieces = (depth ≡ 0) ⊎ ((pieces ≡ 1) × (((step_at left depth).min ≡ (step_at right depth).min) ⊎ StandForAll width left right depth))

abbrev pub IsNextDecision : Width → List PathStep → List PathStep → ℕ → RowKind → List Item → ℕ → Next → Type 0
IsNextDecision width left right depth kind items pieces Empty = IsNothing width left right depth kind items
IsNextDecision width left right depth kind items pieces Root = (IsNothing width left right depth kind items → ⊥) × (pieces ≡ 1) × StandForAll width left right depth
IsNextDecision width left right depth kind items pieces RootAbove = (IsNothing width left right depth kind items → ⊥) × (depth ≡ 0) × (pieces ≡ 1 → StandForAll width left right depth → ⊥)
IsNextDecision width left right depth kind items pieces Slot = (IsNothing width left right depth kind items → ⊥) × (0 < depth) × (pieces ≡ 1) × ((step_at left depth).min ≡ (step_at right depth).min) × (StandForAll width left right depth → ⊥)
IsNextDecision width left right depth kind items pieces Up = (IsNothing width left right depth kind items → ⊥) × (EndsHere width left right depth pieces → ⊥)

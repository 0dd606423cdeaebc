-- Which nodes of a level a search goes into, from the left and from the right.
-- Source: the kernel's lib/maple_tree.c, mas_anode_descend and mas_rev_awalk: a gap word decides whether room can be below a
-- slot.
use Rattle.std.specs.Prelude.{ℕ, ◌&&◌, Bool, List, [], ◌∷◌, ◌++◌, fold, nat_le, if◌then◌else◌}
use Rattle.std.specs.List.{list_any}
use Rattle.mt_gap.specs.Prelude.{Span}
use Rattle.mt_gap.specs.declared.children.Child.{Child}

-- the span has an index of the window
abbrev pub meets : ℕ → ℕ → Span → Bool
meets lo hi x = nat_le x.first hi && nat_le lo x.last

-- whether room for `size` indexes can be below the child, and in the window
abbrev pub may_have : ℕ → ℕ → ℕ → Child → Bool
may_have n lo hi x = nat_le n x.gap && meets lo hi x.span

-- the child lies in the window
abbrev pub inside : ℕ → ℕ → Child → Bool
inside lo hi x = nat_le lo x.span.first && nat_le x.span.last hi

-- Of adjacent children, those that can have room: none is asked after the first that lies in the window, because that one has
-- room.
abbrev pub narrow : ℕ → ℕ → ℕ → List Child → List Child
narrow n lo hi [] = []
narrow n lo hi (x ∷ xs) =
    if may_have n lo hi x
    then (if inside lo hi x then x ∷ [] else x ∷ narrow n lo hi xs)
    else narrow n lo hi xs

-- one of the children lies in the window and may have room
abbrev pub has_sure : ℕ → ℕ → ℕ → List Child → Bool
has_sure n lo hi xs = list_any (λ x. may_have n lo hi x && inside lo hi x) xs

-- From the right: one child more. One that lies in the window and may have room has it, and those before it do not count.
abbrev pub next_up : ℕ → ℕ → ℕ → List Child → Child → List Child
next_up n lo hi acc x = if may_have n lo hi x then (if inside lo hi x then x ∷ [] else acc ++ (x ∷ [])) else acc

abbrev pub narrow_up : ℕ → ℕ → ℕ → List Child → List Child → List Child
narrow_up n lo hi acc xs = fold (next_up n lo hi) acc xs

-- How a level goes on, told by cases.
use Rattle.mt_splice.proofs.Prelude.{◌≡◌, ℕ, List, refl, Width, Book, Item, RowKind, PathStep, Sheet, Climb, Next, Empty, RootAbove, Up, IsLevelDrafted, IsLevelDone, IsNothing, IsNextDecision, Before, Start}
use Rattle.mt_splice.specs.declared.decisions.Next.TheVariants.{Root, Slot}

pub some_left : {width : Width} {left right : List PathStep} {depth : ℕ} {kind : RowKind} {items : List Item} (pieces : ℕ) (next : Next) → (next ≡ Empty → ⊥) → IsNextDecision width left right depth kind items pieces next → IsNothing width left right depth kind items → ⊥
some_left pieces Empty some goes = absurd (some refl)
some_left pieces Root some goes = goes.0
some_left pieces RootAbove some goes = goes.0
some_left pieces Slot some goes = goes.0
some_left pieces Up some goes = goes.0

pub drafted_is_done : {b : Before} {start : Start} {s : Sheet} {book : Book} {depth : ℕ} {c : Climb} {rows : List ℕ} {new : List Item} (next : Next) → (next ≡ Empty → ⊥) → IsLevelDrafted b start s book depth c rows new next → IsLevelDone b start s book depth c rows new next
drafted_is_done Empty some drafted = absurd (some refl)
drafted_is_done Root some drafted = drafted
drafted_is_done RootAbove some drafted = drafted
drafted_is_done Slot some drafted = drafted
drafted_is_done Up some drafted = drafted

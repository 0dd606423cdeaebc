-- Names are read back as what they were made of, and nothing else is read as a name.
use Rattle.mt_layout.proofs.Prelude.{◌≡◌, ℕ, ◌<◌, Some, None, arith, common_steps, RowKind, IsRowNumber, Names, name_at, row_in, named_row, named_kind, parent_at, dead_mark}

pub named_kind-name_at : (row : ℕ) (kind : RowKind) → IsRowNumber row → named_kind (name_at row kind) ≡ Some kind
named_kind-name_at row kind here = grind (arith, common_steps)

pub named_row-name_at : (row : ℕ) (kind : RowKind) → IsRowNumber row → named_row (name_at row kind) ≡ Some row
named_row-name_at row kind here = grind (arith, common_steps)

pub Names-named_kind : (word : ℕ) (kind : RowKind) → named_kind word ≡ Some kind → Names word (row_in word) kind
Names-named_kind word kind is = grind (arith, common_steps)

pub Names-named_row : (word row : ℕ) → named_row word ≡ Some row → (kind : RowKind) × Names word row kind
Names-named_row word row is = grind (arith, common_steps)

pub named_row-no_name : (word : ℕ) → named_row word ≡ None → (row : ℕ) (kind : RowKind) → Names word row kind → ⊥
named_row-no_name word is row kind names = grind (arith, common_steps)

pub named_kind-no_name : (word : ℕ) → named_kind word ≡ None → (row : ℕ) (kind : RowKind) → Names word row kind → ⊥
named_kind-no_name word is row kind names = grind (arith, common_steps)

pub row_in-name_at : (row : ℕ) (kind : RowKind) → row_in (name_at row kind) ≡ row
row_in-name_at row kind = grind (arith, common_steps)

-- a parent word that is a dead mark is that of the row itself
pub own_parent : (child row slot : ℕ) → slot < 256 → parent_at row slot ≡ dead_mark child → child ≡ row
own_parent child row slot few dead = omega arith

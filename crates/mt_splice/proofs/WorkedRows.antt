-- Definitions of the write path on worked rows.
use Rattle.mt_splice.proofs.Prelude.{◌≡◌, ℕ, List, [], ◌∷◌, refl, Item, Leaf, Inner, Span, name_at, after_retirals, noted_rows, heads, newest_first, before, behind, between}

abbrev row : ℕ → ℕ → ℕ → Span
row first last word = record { first = first; last = last; word = word }

-- ten indexes each
abbrev three : List Span
three = row 0 9 4 ∷ row 10 19 5 ∷ row 20 29 6 ∷ []

one_alone : between 12 17 three ≡ row 10 19 5 ∷ []
one_alone = refl

two_beside : between 12 20 three ≡ row 10 19 5 ∷ row 20 29 6 ∷ []
two_beside = refl

all_three : between 0 29 three ≡ three
all_three = refl

ahead : before 12 three ≡ row 0 9 4 ∷ []
ahead = refl

rest : behind 19 three ≡ row 20 29 6 ∷ []
rest = refl

newest : newest_first 1 (row 0 9 4 ∷ row 10 19 5 ∷ []) ≡ record { height = 1; at = row 10 19 5 } ∷ record { height = 1; at = row 0 9 4 } ∷ []
newest = refl

noted : noted_rows Inner 0 (2 ∷ 5 ∷ []) (16 ∷ 17 ∷ []) ≡ record { row = 16; count = 2 } ∷ record { row = 17; count = 3 } ∷ []
noted = refl

abbrev item : ℕ → ℕ → Item
item last word = record { last = last; word = word; gap = 0 }

up : heads Inner Leaf 0 (item 3 0 ∷ item 5 8 ∷ item 9 12 ∷ []) 0 (2 ∷ 3 ∷ []) (16 ∷ 17 ∷ []) ≡ item 5 (name_at 16 Leaf) ∷ item 9 (name_at 17 Leaf) ∷ []
up = refl

held : after_retirals (record { rows = 3; free = []; held = [] }) (16 ∷ 18 ∷ []) 7 ≡ record { rows = 3; free = []; held = record { row = 16; stamp = 7 } ∷ record { row = 18; stamp = 7 } ∷ [] }
held = refl

-- A list of numbers of which only the first are stored: those after them are 0.
-- Source: this project's own.
use Rattle.std.specs.Prelude.{◌≡◌, ◌⊎◌, ℕ, zero, suc, ◌+◌, ◌<◌, ◌≤◌, List, [], ◌∷◌, length, slice_index, vec_capacity}
use Rattle.mt_rows.specs.declared.words.Words.TheInside.{Inside}

pub record Listed : Type 0 where
  pub items : List ℕ

-- these words, and zeros after them up to this number of words
abbrev pub with_zeros : ℕ → List ℕ → List ℕ
with_zeros zero xs = xs
with_zeros (suc n) [] = 0 ∷ with_zeros n []
with_zeros (suc n) (x ∷ xs) = x ∷ with_zeros n xs

abbrev pub listed : Inside → Listed
listed w = record { items = with_zeros w.len w.written.items }

-- there is room to write each of them down
pub record IsListed (w : Inside) : Type 0 where
  pub fit : length w.written.items ≤ w.len
  pub room : w.len ≤ vec_capacity w.written

-- these words are at a place and after it, and each other word is as before
pub record ArePut (at : ℕ) (words : List ℕ) (w w' : List ℕ) : Type 0 where
  pub size : length w' ≡ length w
  pub here : (i : ℕ) → i < length words → slice_index w' (at + i) ≡ slice_index words i
  pub others : (k : ℕ) → (k < at) ⊎ (at + length words ≤ k) → slice_index w' k ≡ slice_index w k

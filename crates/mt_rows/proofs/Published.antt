-- A word that is published changes neither how many rows there are nor how wide they are.
use Rattle.mt_rows.proofs.Prelude.{◌≡◌, ℕ, refl, Place, Root, Slot, with_published, Rooted}

pub published_rows : (t : Rooted) (place : Place) (word : ℕ) → (with_published t place word).rows ≡ t.rows
published_rows t Root word = refl
published_rows t (Slot row col) word = refl

pub published_width : (t : Rooted) (place : Place) (word : ℕ) → (with_published t place word).table.width ≡ t.table.width
published_width t Root word = refl
published_width t (Slot row col) word = refl

-- An image of a tree: its kind, the number of its nodes, its root word and the words of its nodes, as bytes.
-- Source: this project's own.
use Rattle.std.specs.Prelude.{ℕ, ◌*◌, List, ◌∷◌, ◌++◌, codes, drop, flat_map}
use Rattle.std.specs.Int.{w64, to_le_bytes}
use Rattle.mt_image.specs.Prelude.{Kind, columns, first_row, kind_width, Rooted}
use Rattle.mt_base.specs.declared.kinds.Kind.TheVariants as kinds

-- the number of a kind
abbrev pub kind_code : Kind → ℕ
kind_code kinds.Range = 0
kind_code kinds.Alloc = 1
kind_code kinds.Range32 = 2
kind_code kinds.Alloc32 = 3

-- a tree of this kind whose table has these words
abbrev pub tree_with_words : Kind → ℕ → ℕ → List ℕ → Rooted
tree_with_words kind rows root words = record { rows = rows; table = record { width = kind_width kind; words = words }; root = root }

-- the words of the nodes: all of the table but those before the first node
abbrev pub words_of : Rooted → List ℕ
words_of t = drop (columns t.table.width * first_row) t.table.words

-- after a text each number has 8 bytes, the lowest first
abbrev pub image_parts : Kind → ℕ → ℕ → List ℕ → List ℕ
image_parts kind rows root words = codes "mtimage1" ++ flat_map (to_le_bytes w64) (kind_code kind ∷ (rows ∷ (root ∷ words)))

abbrev pub image_of : Kind → Rooted → List ℕ
image_of kind t = image_parts kind t.rows t.root (words_of t)

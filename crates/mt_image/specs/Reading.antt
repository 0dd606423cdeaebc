-- Of what tree or map bytes are an image (a serialised tree), or the first reason why they are none, in this order.
-- Source: this project's own.
use Rattle.std.specs.Prelude.{ℕ, zero, suc, ◌+◌, ◌*◌, ◌==◌, ◌<◌, nat_lt, slice_index, List, [], ◌∷◌, ◌++◌, Option, Some, None, Result, Ok, Err, length, take, replicate, codes, if◌then◌else◌, bytes_eq}
use Rattle.std.specs.List.{find, slice_range}
use Rattle.std.specs.Int.{w64, from_le_bytes}
use Rattle.mt_image.specs.Prelude.{Kind, columns, first_row, kind_width, most_rows, Fault, Form, checked, IsMadeOf, Rooted, Sheet, tree_as}
use Rattle.mt_base.specs.declared.kinds.Kind.TheVariants as kinds
use Rattle.mt_image.specs.Bytes.{kind_code, tree_with_words}
use Rattle.mt_image.specs.Orders.{stray_in}
use Rattle.mt_image.specs.declared.errors.ImageError.{ImageError}
use Rattle.mt_image.specs.declared.errors.ImageError.TheVariants.{Length, Head, Broken, Stray}

-- the kind and the words of a tree
pub record Image : Type 0 where
  pub kind : Kind
  pub tree : Rooted

abbrev pub AreBytes : List ℕ → Type 0
AreBytes bytes = (i : ℕ) → slice_index bytes i < 256

-- the number in the 8 bytes from a place on
abbrev pub number_at : List ℕ → ℕ → ℕ
number_at bytes at = from_le_bytes w64 (slice_range bytes at (at + 8))

-- `n` numbers from a place on
unfoldable pub numbers_from : List ℕ → ℕ → ℕ → List ℕ
numbers_from bytes at zero = []
numbers_from bytes at (suc n) = number_at bytes at ∷ numbers_from bytes (at + 8) n

abbrev pub all_kinds : List Kind
all_kinds = kinds.Range ∷ (kinds.Alloc ∷ (kinds.Range32 ∷ (kinds.Alloc32 ∷ [])))

-- the kind of this number
unfoldable pub kind_numbered : ℕ → Option Kind
kind_numbered n = find (λ kind. kind_code kind == n) all_kinds

-- where the head ends and the nodes begin
abbrev pub head_length : ℕ
head_length = 32

-- the tree of the words in an image of this kind: no node has those before the first node
abbrev pub image_words : List ℕ → Kind → List ℕ
image_words bytes kind = replicate (columns (kind_width kind) * first_row) 0 ++ numbers_from bytes head_length (number_at bytes 16 * columns (kind_width kind))

abbrev pub image_tree : List ℕ → Kind → Rooted
image_tree bytes kind = tree_with_words kind (number_at bytes 16) (number_at bytes 24) (image_words bytes kind)

-- Nodes in memory that were made of the words in an image of this kind, and only loaded since: no call was begun.
abbrev pub HoldImage : List ℕ → Kind → Sheet → Type 0
HoldImage bytes kind s = IsMadeOf (kind_width kind) (number_at bytes 24) (numbers_from bytes head_length (number_at bytes 16 * columns (kind_width kind))) (record s { reads = Some 0 })

-- no node may be stray
abbrev pub placed : Image → Option ℕ → Result Image ImageError
placed image None = Ok image
placed image (Some row) = Err (Stray row)

-- before that, the words have to be well-formed (well-formed)
abbrev pub lawful : Image → Result Form Fault → Result Image ImageError
lawful image (Ok form) = placed image (stray_in image.tree)
lawful image (Err fault) = Err (Broken fault.row fault.law)

abbrev pub image_length : Kind → ℕ → ℕ
image_length kind rows = head_length + 8 * (rows * columns (kind_width kind))

-- what is read after the head and its length
abbrev pub behind_head : List ℕ → Kind → Result Image ImageError
behind_head bytes kind = lawful (record { kind = kind; tree = image_tree bytes kind }) (checked (tree_as kind (image_tree bytes kind)))

-- what is read after the kind, if it is one
abbrev pub image_of_kind : List ℕ → Option Kind → Result Image ImageError
image_of_kind bytes None = Err (Head 8)
image_of_kind bytes (Some kind) =
    if nat_lt most_rows (number_at bytes 16) then Err (Head 16)
    else (if length bytes == image_length kind (number_at bytes 16) then behind_head bytes kind
    else Err (Length (image_length kind (number_at bytes 16)) (length bytes)))

unfoldable pub image_in : List ℕ → Result Image ImageError
image_in bytes =
    if nat_lt (length bytes) head_length then Err (Length head_length (length bytes))
    else (if bytes_eq (take 8 bytes) (codes "mtimage1") then image_of_kind bytes (kind_numbered (number_at bytes 8))
    else Err (Head 0))

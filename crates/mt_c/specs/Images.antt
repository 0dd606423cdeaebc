-- Images of trees as C has them. Source: this project's own.
use Rattle.std.specs.Prelude.{◌≡◌, ◌⊎◌, ℕ, ◌<◌, ◌≤◌, List, ◌++◌, Option, Some, None, Ok, IsErr, drop, length}
use Rattle.mt_c.specs.Prelude.{IsImageOf, Image, image_in, map_by, Parts}
use Rattle.mt_c.specs.Calls.{IsAsked}
use Rattle.mt_c.specs.Copying.{FitsRows, IsOpenedWith}
use Rattle.mt_c.specs.Own.{OwnTree}

-- the tree has an image of this many bytes, with which the buffer begins; the buffer is otherwise as before
abbrev pub PutsImage : Parts → List ℕ → List ℕ → ℕ → Type 0
PutsImage t out out' used =
    (bytes : List ℕ) × IsImageOf t.kind t.sheet.tree bytes × (used ≡ length bytes) × (length bytes ≤ length out) × (out' ≡ bytes ++ drop (length bytes) out)

-- it has one of this many bytes, for which the buffer is too short
abbrev pub IsLongImage : Parts → List ℕ → ℕ → Type 0
IsLongImage t out used = (bytes : List ℕ) × IsImageOf t.kind t.sheet.tree bytes × (used ≡ length bytes) × (length out < length bytes)

-- ERANGE where the buffer is too short, and ENOMEM where memory ran out: it is as before then
abbrev pub TellsImage : Parts → List ℕ → List ℕ → ℕ → ℕ → Type 0
TellsImage t out out' used status =
    ((status ≡ 0) × PutsImage t out out' used) ⊎ (((status ≡ 34) × (out' ≡ out) × IsLongImage t out used) ⊎ ((status ≡ 12) × (out' ≡ out) × (used ≡ 0)))

-- The image of what C keeps, which is only read. A closed tree is EBADF.
abbrev pub Imaged : Option OwnTree → Option OwnTree → List ℕ → List ℕ → ℕ → ℕ → Type 0
Imaged None after out out' used status = (after ≡ None) × (status ≡ 9) × (out' ≡ out) × (used ≡ 0)
Imaged (Some t) None out out' used status = ⊥
Imaged (Some t) (Some t') out out' used status = IsAsked t.engine t'.engine × TellsImage t.engine out out' used status

-- a tree with the map of the image that these bytes are, in this many nodes, which are enough for the image's
abbrev pub IsOfImage : List ℕ → ℕ → Parts → Type 0
IsOfImage bytes rows t = (x : Image) × (image_in bytes ≡ Ok x) × FitsRows x.tree.rows rows × IsOpenedWith x.kind rows (map_by x.tree) t

-- Why there is none: EBADMSG if the bytes are no image, EDOM if the nodes do not fit, or ENOMEM.
abbrev pub LacksImage : List ℕ → ℕ → ℕ → Type 0
LacksImage bytes rows status =
    ((status ≡ 74) × IsErr (image_in bytes)) ⊎ (((x : Image) × (image_in bytes ≡ Ok x) × (status ≡ 33) × (FitsRows x.tree.rows rows → ⊥)) ⊎ (status ≡ 12))

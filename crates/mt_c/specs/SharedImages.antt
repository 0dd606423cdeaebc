-- Shared trees that open with the map of an image, or of ranges. Source: this project's own.
use Rattle.std.specs.Prelude.{◌≡◌, ◌⊎◌, ℕ, ◌<◌, List, Option, Some, None, Ok, IsErr}
use Rattle.mt_c.specs.Prelude.{Kind, Range, rows_in, misplaced, kind_code, Image, image_in, map_by, Shape, first_bad}
use Rattle.mt_c.specs.declared.user.User.{User}
use Rattle.mt_c.specs.declared.user_handle.UserHandle.{UserHandle}
use Rattle.mt_c.specs.Building.{LacksRanges}
use Rattle.mt_c.specs.Owned.{unopened}
use Rattle.mt_c.specs.Shared.{IsBadShape, IsLeftClosed, OnClosed}
use Rattle.mt_c.specs.SharedMaps.{IsFirstWith, shape_for}

-- Why none of this shape has a map that needs this many nodes: the number of the first field that is out of range; or, of a
-- shape in range, EDOM if the nodes are fewer, or ENOMEM.
abbrev pub LacksMany : Shape → ℕ → ℕ → Type 0
LacksMany shape many status = IsBadShape shape status ⊎ ((first_bad shape ≡ None) × (((status ≡ 33) × (shape.rows < many)) ⊎ (status ≡ 12)))

-- The first user of such a tree is opened, or the number says why there is none.
abbrev pub OpensSo : (User → Type 0) → (ℕ → Type 0) → Option User → ℕ → Type 0
OpensSo is lacks (Some u) status = (status ≡ 0) × is u
OpensSo is lacks None status = lacks status

abbrev pub OpensUser : (User → Type 0) → (ℕ → Type 0) → UserHandle → UserHandle → ℕ → Type 0
OpensUser is lacks before after status = OnClosed before after status (OpensSo is lacks after.kept.value status)

-- ---- images

-- the first user of a tree with the map of the image that these bytes are
abbrev pub IsFirstOfImage : List ℕ → ℕ → ℕ → ℕ → User → Type 0
IsFirstOfImage bytes rows passes calls u = (x : Image) × (image_in bytes ≡ Ok x) × IsFirstWith (shape_for x.kind rows passes calls) (map_by x.tree) u

-- why there is none: EBADMSG if the bytes are no image, or as of a map that needs the image's nodes
abbrev pub LacksFirstOfImage : List ℕ → ℕ → ℕ → ℕ → ℕ → Type 0
LacksFirstOfImage bytes rows passes calls status =
    ((status ≡ 74) × IsErr (image_in bytes)) ⊎ (((x : Image) × (image_in bytes ≡ Ok x) × LacksMany (shape_for x.kind rows passes calls) x.tree.rows status) ⊎ (status ≡ 12))

-- ---- ranges

-- the first user of a tree of the kind with this code that has just these ranges, which are in good order
abbrev pub IsFirstOfRanges : ℕ → ℕ → ℕ → ℕ → List Range → User → Type 0
IsFirstOfRanges code rows passes calls m u = (kind : Kind) × (kind_code kind ≡ code) × (misplaced kind m ≡ None) × IsFirstWith (shape_for kind rows passes calls) m u

-- why there is none: as of one of one thread, or as of a map that needs the nodes of these ranges
abbrev pub LacksFirstOfRanges : ℕ → ℕ → ℕ → ℕ → List Range → ℕ → ℕ → Type 0
LacksFirstOfRanges code rows passes calls m status at =
    LacksRanges code rows m status at ⊎ ((kind : Kind) × (kind_code kind ≡ code) × (at ≡ 0) × LacksMany (shape_for kind rows passes calls) (rows_in kind m) status)

-- If a tree opens, no place is returned.
abbrev pub BuildsSo : ℕ → ℕ → ℕ → ℕ → List Range → Option User → ℕ → ℕ → Type 0
BuildsSo code rows passes calls m (Some u) status at = (status ≡ 0) × (at ≡ 0) × IsFirstOfRanges code rows passes calls m u
BuildsSo code rows passes calls m None status at = LacksFirstOfRanges code rows passes calls m status at

-- nor where one is not closed
abbrev pub BuildsIf : Option ℕ → UserHandle → UserHandle → ℕ → ℕ → Type 0 → Type 0
BuildsIf None before after status at builds = IsLeftClosed after × builds
BuildsIf (Some number) before after status at builds = (after ≡ before) × (status ≡ number) × (at ≡ 0)

abbrev pub SharedBuilds : ℕ → ℕ → ℕ → ℕ → List Range → UserHandle → UserHandle → ℕ → ℕ → Type 0
SharedBuilds code rows passes calls m before after status at = BuildsIf (unopened before.state) before after status at (BuildsSo code rows passes calls m after.kept.value status at)

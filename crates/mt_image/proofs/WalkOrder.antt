-- The rows of a lawful tree, none of which is stray, are in the order of the walk.
use Rattle.mt_image.proofs.Prelude.{◌≡◌, None, ap, ◌∙◌, Kind, first_row, reached_in, Rooted, IsLawfulOf, AreRowsInOrder, stray_from, stray_in}
use Rattle.mt_image.proofs.FewReached.{reached_once, reached_inside}
use Rattle.mt_image.proofs.Places.{whole_in_order, stray_none}

pub not_stray : (kind : Kind) (t : Rooted) → IsLawfulOf t kind → stray_in t ≡ None → AreRowsInOrder t
not_stray kind t lawful none = whole_in_order first_row t.rows (reached_in t.table t.root) none (reached_once kind t lawful) (reached_inside kind t lawful)

-- rows that are in order have no stray
pub in_order : (t : Rooted) → AreRowsInOrder t → stray_in t ≡ None
in_order t order = ap (stray_from first_row t.rows) order ∙ stray_none first_row t.rows

-- What is built of ranges in good order is a lawful tree of them.
use Rattle.mt_bulk.proofs.Prelude.{◌≡◌, ℕ, ◌*◌, ◌≤◌, List, [], ◌∷◌, None, length, refl, ◌∙◌, inl, inr, Kind, Range, columns, deepest, kind_width, most_rows, root_span, map_in, Tree, IsLawful, ranges_by_depth, nine_levels, bulk, misplaced}
use Rattle.mt_bulk.proofs.Facts.{StandsFor, tree_built}
use Rattle.mt_bulk.proofs.Whole.{bulk_stands}

pub stands_lawful : (t : Tree) (m : List Range) → t.rows ≤ most_rows → StandsFor t m → IsLawful t × (map_in t.table t.root ≡ m)
stands_lawful t m few stands =
    let low = nine_levels t stands.height few stands.rows in (
      inr (stands.height, record { low = low; rows = stands.rows }, stands.parent, stands.tended),
      ranges_by_depth t deepest stands.height (root_span t.table t.root) low stands.rows ∙ stands.map,
    )

pub bulk_lawful : (tree : Kind) (m : List Range) (count : ℕ) → misplaced tree m ≡ None → count ≤ most_rows → length (bulk tree m).words ≡ columns (kind_width tree) * count
    → IsLawful (tree_built tree count (bulk tree m)) × (map_in (tree_built tree count (bulk tree m)).table (tree_built tree count (bulk tree m)).root ≡ m)
bulk_lawful tree [] count good few many = (inl refl, refl)
bulk_lawful tree (r ∷ m) count good few many = stands_lawful (tree_built tree count (bulk tree (r ∷ m))) (r ∷ m) few (bulk_stands tree r m count good few many)

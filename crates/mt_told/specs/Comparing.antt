-- The first line of a listing.
-- Source: this project's own.
use Rattle.std.specs.Prelude.{ℕ, List, [], ◌∷◌, ◌++◌, codes, decimal}
use Rattle.mt_told.specs.Prelude.{Kind, kind_text}

-- the first line of the listing of a tree with this many ranges
abbrev pub head_line : List ℕ → Kind → ℕ → List ℕ
head_line name kind count = codes "tree " ++ (name ++ (codes " " ++ (kind_text kind ++ (codes " " ++ (decimal count ++ (10 ∷ []))))))

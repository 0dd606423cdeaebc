-- Rows next to each other on a level.
use Rattle.mt_splice.proofs.Prelude.{List, ◌≡◌, ℕ, ◌+◌, ◌++◌, Span, Fills, Tree, top_of, rows_at}

-- of the rows of a level, those that cover the indexes from lo up to, but without, hi
pub record IsStretch (t : Tree) (depth lo hi : ℕ) (front old back : List Span) : Type 0 where
  pub parts : rows_at t depth ≡ front ++ (old ++ back)
  pub before : Fills 0 lo front
  pub here : Fills lo hi old
  pub after : Fills hi (top_of t + 1) back

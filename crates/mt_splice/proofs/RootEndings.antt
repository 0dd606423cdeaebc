-- A replacement ends at the root: by one row that covers all, by a root above several rows, or with no row at all.
use Rattle.mt_splice.proofs.Prelude.{◌≡◌, ℕ, List, ◌∷◌, refl, ap, subst, Span, root_span, Levels, Tree, IsRow, top_of, root_of, levels_map, row_keeps, with_root, []}

-- ---- another root word

reroot : (t : Tree) (root : ℕ) (h : ℕ) (xs : List Span) → Levels (IsRow t) t.table h xs → Levels (IsRow (with_root t root)) t.table h xs
reroot t root h xs rows = levels_map (IsRow t) (IsRow (with_root t root)) t.table (λ k x row. row_keeps t t.table.words root k x (λ c above within. refl) row) h xs rows

-- a span that covers all is that of a root
pub root_is : (t : Tree) (x : Span) → x.first ≡ 0 → x.last ≡ top_of t → x ≡ root_span t.table x.word
root_is t x first last = λ i. record { first = first i; last = last i; word = x.word }

-- the rows of one level stand in place of the whole tree
module _ (t : Tree) (x : Span) (first : x.first ≡ 0) (last : x.last ≡ top_of t) where
  abbrev t' : Tree
  t' = with_root t x.word

  pub at_root : x ∷ [] ≡ root_of t'
  at_root = ap (λ (y : Span). y ∷ []) (root_is t x first last)

  pub root_rows : (k : ℕ) → Levels (IsRow t) t.table k (x ∷ []) → Levels (IsRow t') t'.table k (root_of t')
  root_rows k rows = subst (Levels (IsRow t') t'.table k) at_root (reroot t x.word k (x ∷ []) rows)

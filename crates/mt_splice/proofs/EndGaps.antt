-- The law of gaps at the end of a replacement: at a new root, and after parent words were written.
use Rattle.mt_splice.proofs.Prelude.{◌≡◌, ℕ, zero, suc, ◌+◌, ◌<◌, ◌≤◌, List, ◌∷◌, Some, Bool, length, refl, sym, ap, ◌∙◌, subst, inl, inr, arith, AllByRecursion, ◌⊎◌, Width, columns, RowKind, Leaf, Inner, Gapped, Span, row_in, gap_column, slots_of, gaps_of, sizes, some_gaps_of, Table, column, inner_of, spans_in, expand, Levels, Tree, IsRow, GapLaw, top_of, GapsFromBut, GapLawButBy, KeepsGaps, row_most, same_spans, Shared, levels_shared, levels_map, levels_pair, longest_shared, table_with, tree_with, GapsAs, with_root, []}
use Rattle.mt_splice.proofs.GapRows.{Kept, gap_law_stays}
use Rattle.mt_splice.proofs.RootEndings.{at_root}
use Rattle.mt_splice.proofs.SlotGaps.{weaker}

-- ---- at a new root all rows keep the law

same_law : (t : Tree) (root h : ℕ) (x : Span) → GapLaw t h x → GapLaw (with_root t root) h x
same_law t root zero x law = tt
same_law t root (suc h) x law = law

pub root_laws : (is_new : ℕ → Bool) (index : ℕ) (t : Tree) (h : ℕ) (x : Span) → x.first ≡ 0 → x.last ≡ top_of t → Levels (GapLaw t) t.table h (x ∷ []) → GapsAs is_new index (with_root t x.word) (Some h)
root_laws is_new index t h x first last laws =
    let t' = with_root t x.word in
    subst (Levels (KeepsGaps is_new index t') t'.table h) (at_root t x first last)
    (levels_map (GapLaw t) (KeepsGaps is_new index t') t'.table (λ j y law. record { beside = weaker index t' j y (same_law t x.word j y law); new = λ _. same_law t x.word j y law }) h (x ∷ []) laws)

-- ---- every row keeps its columns but for the parent word

abbrev pub AllKeep : Table → Table → Type 0
AllKeep t t' = (r c : ℕ) → 0 < c → c < columns t.width → column t' r c ≡ column t r c

pub levels_all : (P : ℕ → Span → Type 0) (t : Table) → ((h : ℕ) (x : Span) → P h x) → (h : ℕ) (xs : List Span) → Levels P t h xs
levels_all P t each zero xs = all_here zero xs
  where
    all_here : (h : ℕ) (xs : List Span) → AllByRecursion (P h) xs
    all_here h [] = tt
    all_here h (x ∷ xs) = (each h x, all_here h xs)
levels_all P t each (suc h) xs = (all_here (suc h) xs, levels_all P t each h (expand t xs))
  where
    all_here : (h : ℕ) (xs : List Span) → AllByRecursion (P h) xs
    all_here h [] = tt
    all_here h (x ∷ xs) = (each h x, all_here h xs)

gap_within : (width : Width) (slot : ℕ) → slot < slots_of width Gapped → (0 < gap_column (slots_of width Gapped) slot) × (gap_column (slots_of width Gapped) slot < columns width)
gap_within width slot used = by (sizes width Gapped).gaps
  where
    by : (gaps_of width Gapped ≡ 0) ⊎ (gaps_of width Gapped ≡ slots_of width Gapped) → (0 < gap_column (slots_of width Gapped) slot) × (gap_column (slots_of width Gapped) slot < columns width)
    by (inl none) = absurd (some_gaps_of width none)
    by (inr all) = let fit = (sizes width Gapped).columns_fit in (omega arith, omega arith)

module _ (is_new : ℕ → Bool) (index : ℕ) (t : Tree) (words : List ℕ) (keep : AllKeep t.table (table_with t.table words)) where
  abbrev t' : Tree
  t' = tree_with t words

  all_shared : (h : ℕ) (xs : List Span) → Levels (Shared t.table t'.table) t.table h xs
  all_shared h xs = levels_all (Shared t.table t'.table) t.table (λ _ x. same_spans t.table t'.table x refl (keep (row_in x.word))) h xs

  from_but : (h row slot : ℕ) (xs : List Span) → slot + length xs ≤ slots_of t.table.width Gapped → GapsFromBut index t.table h row slot xs → GapsFromBut index t'.table h row slot xs
  from_but h row slot [] few law = tt
  from_but h row slot (x ∷ xs) few law =
      let inside = gap_within t.table.width slot (omega arith) in (
        (λ off. keep row (gap_column (slots_of t.table.width Gapped) slot) inside.0 inside.1 ∙ (law.0 off ∙ sym (longest_shared t.table t'.table h (x ∷ []) (all_shared h (x ∷ []))))),
        from_but h row (slot + 1) xs (omega arith) law.1,
      )

  but_of_kind : (kind : RowKind) (h : ℕ) (x : Span) → kind ≡ inner_of t.gapped → IsRow t (suc h) x → GapLawButBy index kind t.table h x → GapLawButBy index kind t'.table h x
  but_of_kind Leaf h x is row law = tt
  but_of_kind Inner h x is row law = tt
  but_of_kind Gapped h x is row law =
      let most = row_most row.name in
      let slots = ap (slots_of t.table.width) is in
      subst (GapsFromBut index t'.table h (row_in x.word) 0) (sym (same_spans t.table t'.table x refl (keep (row_in x.word)))) (from_but h (row_in x.word) 0 (spans_in t.table x) (omega arith) law)

  keeps_then : (h : ℕ) (x : Span) → IsRow t h x → KeepsGaps is_new index t h x → KeepsGaps is_new index t' h x
  keeps_then zero x row keeps = record { beside = tt; new = λ _. tt }
  keeps_then (suc h) x row keeps = record {
    beside = but_of_kind (inner_of t.gapped) h x refl row keeps.beside;
    new = λ is. gap_law_stays t words h x row (keep (row_in x.word)) (levels_all (Kept t words) t.table (λ _ y. keep (row_in y.word)) h (spans_in t.table x)) (keeps.new is);
  }

  pub gaps_kept : (h : ℕ) (xs : List Span) → Levels (IsRow t) t.table h xs → Levels (KeepsGaps is_new index t) t.table h xs → Levels (KeepsGaps is_new index t') t'.table h xs
  gaps_kept h xs rows keeps =
      levels_shared (KeepsGaps is_new index t') t.table t'.table h xs (all_shared h xs)
      (levels_pair (IsRow t) (KeepsGaps is_new index t) (KeepsGaps is_new index t') t.table keeps_then h xs rows keeps)

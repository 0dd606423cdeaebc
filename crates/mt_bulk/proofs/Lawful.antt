-- A row whose words are written keeps the laws of a row, but for those of parents and gaps.
use Rattle.mt_bulk.proofs.Prelude.{◌≡◌, ◌≢◌, ℕ, zero, suc, ◌+◌, ◌<◌, ◌≤◌, false, List, [], length, refl, sym, ap, ◌∙◌, subst, slice_index, AllByRecursion, flat_map, reserved, columns, first_row, Item, RowKind, Span, end_of, items_at, row_words, FitRow, RiseFrom, name_at, row_in, IsRowNumber, slots_of, gaps_of, spans_from, leaf_range, Apart, EndsFull, Fills, row_in-name_at, named_kind-name_at, some_columns, length-spans_from, spans_fill, base_of, column, spans_in, Tree, IsRow, EntryLaw, HoleLaw, kind_on, items_in, least_of}
use Rattle.mt_bulk.proofs.Facts.{IsOfHeight, IsWritten}
use Rattle.mt_bulk.proofs.Written.{items_read, spans_read}

module _ (t : Tree) (h first number parent : ℕ) (row : List Item) (written : IsWritten t.table (kind_on t.gapped h) number parent row)
    (fits : FitRow (slots_of t.table.width (kind_on t.gapped h)) (gaps_of t.table.width (kind_on t.gapped h)) row) (rise : RiseFrom first row) (named : IsRowNumber number) (inside : number < first_row + t.rows) where
  abbrev kind : RowKind
  kind = kind_on t.gapped h

  abbrev pub made : Span
  made = record { first = first; last = end_of first row; word = name_at number kind }

  spans : spans_in t.table made ≡ spans_from first row
  spans = spans_read t.table kind number parent row written fits first named

  row_is : row_in made.word ≡ number
  row_is = row_in-name_at number kind

  items_is : items_in t.table kind made ≡ row
  items_is = ap (λ (r : ℕ). items_at (slots_of t.table.width kind) (gaps_of t.table.width kind) t.table.words (base_of t.table r) (end_of first row)) row_is ∙ items_read t.table kind number parent row written fits first

  parent_is : column t.table (row_in made.word) 0 ≡ parent
  parent_is = ap (λ (r : ℕ). column t.table r 0) row_is ∙ written 0 (some_columns t.table.width)

  by_height : (k : ℕ) → k ≡ h → IsOfHeight t k first row → EntryLaw t k made × HoleLaw t k made
  by_height zero same leaf = (
    subst (AllByRecursion (λ (y : Span). reserved y.word ≡ false)) (sym spans) leaf.entries,
    record {
      apart = subst Apart (sym spans) leaf.apart;
      ends = λ low. subst EndsFull (sym spans) (leaf.ends low);
      some = subst (λ (l : List Span). flat_map leaf_range l ≢ []) (sym spans) leaf.some;
    },
  )
  by_height (suc k) same leaf = (tt, tt)

  pub made_row : least_of t h made ≤ length row → IsOfHeight t h first row → IsRow t h made
  made_row many leaf = record {
    name = record { named = named_kind-name_at number kind named; in_table = subst (λ (r : ℕ). r < first_row + t.rows) (sym row_is) inside };
    pivots = record {
      fills = subst (Fills first (end_of first row + 1)) (sym spans) (spans_fill first first row fits.some rise);
      unused = λ c within.
          ap (λ (r : ℕ). column t.table r c) row_is
          ∙ (written c within
          ∙ (λ i. slice_index (row_words (columns t.table.width) (slots_of t.table.width kind) (gaps_of t.table.width kind) (sym parent_is i) (sym items_is i)) c));
    };
    count = record { least = subst (λ (n : ℕ). least_of t h made ≤ n) (sym (ap length spans ∙ length-spans_from first row)) many };
    entries = (by_height h refl leaf).0;
    holes = (by_height h refl leaf).1;
  }

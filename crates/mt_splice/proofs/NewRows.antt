-- A row that was written keeps the laws of rows (as it stands in mt_splice, LevelRows).
use Rattle.mt_splice.proofs.Prelude.{[], ◌≡◌, ◌≢◌, ℕ, zero, suc, ◌+◌, ◌-◌, ◌<◌, ◌≤◌, List, false, Some, length, refl, sym, ap, ◌∙◌, subst, arith, slice_index, AllByRecursion, flat_map, reserved, first_row, Item, Span, RowKind, name_at, end_of, spans_from, leaf_range, Fills, Apart, EndsFull, row_in-name_at, fills_end, spans_in, Tree, IsRow, EntryLaw, HoleLaw, kind_on, least_of, words_in, IsNewRow, MayBeIn, MayBeLeaves, span_to}
use Rattle.mt_splice.proofs.LevelRuns.{IsRun}
use Rattle.mt_splice.proofs.WrittenRows.{new_named, new_spans, new_unused}

module _ (t : Tree) (height lo hi : ℕ) (kind : RowKind) (row : ℕ) (items : List Item) (new : IsNewRow t.table kind row items) (is : kind ≡ kind_on t.gapped height) (in_table : row < first_row + t.rows)
    (run : IsRun t height lo hi items) where
  abbrev at : Span
  at = record { first = lo; last = end_of 0 items; word = name_at row kind }

  spans : spans_in t.table at ≡ spans_from lo items
  spans = new_spans t.table kind row items new lo

  end_is : hi ≡ end_of 0 items + 1
  end_is = fills_end lo lo hi 0 items new.some run.fills

  entries : (h : ℕ) → MayBeIn h (spans_from lo items) → EntryLaw t h at
  entries zero fit = subst (AllByRecursion (λ (x : Span). reserved x.word ≡ false)) (sym spans) fit.1
  entries (suc h) fit = tt

  holes : (h : ℕ) → MayBeIn h (spans_from lo items) → (h ≡ 0 → MayBeLeaves t hi (spans_from lo items)) → HoleLaw t h at
  holes zero fit leaves = record {
    apart = subst Apart (sym spans) fit.0;
    ends = λ below. subst EndsFull (sym spans) ((leaves refl).ends (let end = end_is in omega arith));
    some = subst (λ (xs : List Span). flat_map leaf_range xs ≢ []) (sym spans) (leaves refl).some;
  }
  holes (suc h) fit leaves = tt

  last_is : hi - 1 ≡ end_of 0 items
  last_is = let end = end_is in omega arith

  pub new_lawful : IsRow t height at
  new_lawful = record {
    name = record {
      named = new_named t.table kind row items new ∙ ap (λ (k : RowKind). Some k) is;
      in_table = subst (λ (r : ℕ). r < first_row + t.rows) (sym (row_in-name_at row kind)) in_table;
    };
    pivots = record {
      fills = subst (λ (n : ℕ). Fills lo n (spans_in t.table at)) end_is (subst (Fills lo hi) (sym spans) run.fills);
      unused = λ c within. new_unused t.table kind row items new lo c within ∙ ap (λ (k : RowKind). slice_index (words_in t.table k at) c) is;
    };
    count = record {
      least = subst (λ (n : ℕ). least_of t height (record { first = lo; last = n; word = 0 }) ≤ length (spans_in t.table at)) last_is
          (subst (λ (n : ℕ). least_of t height (span_to lo hi) ≤ n) (sym (ap length spans)) run.least);
    };
    entries = entries height run.fit;
    holes = holes height run.fit run.leaves;
  }

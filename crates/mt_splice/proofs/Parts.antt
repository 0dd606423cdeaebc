-- Rows that hold the parts of a level's items are a layer.
use Rattle.mt_splice.proofs.Prelude.{◌≡◌, ℕ, ◌+◌, List, [], ◌∷◌, ◌++◌, Bool, true, length, drop, sym, ap, ◌∙◌, subst, arith, AllByRecursion, Item, RowKind, Span, end_of, row_in, spans_from, Fills, row_in-name_at, after, after_some, spans-append, length-spans_from, expand, Tree, IsRow, kind_on, IsCutOf, MayBeCut, Start, tree_with, AreHeld, part_of, heads}
use Rattle.mt_splice.proofs.Gathering.{none_behind}
use Rattle.mt_splice.proofs.LevelRuns.{AreParts, length-part, cut_makes_parts}
use Rattle.mt_splice.proofs.WrittenRows.{new_spans}
use Rattle.mt_splice.proofs.Heads.{drop_part, heads_fill, length-heads}
use Rattle.mt_splice.proofs.NewRows.{new_lawful}

-- rows of a height were written, which hold these items: they are new, and the fewest that hold them
pub record AreNew (start : Start) (words : List ℕ) (is_new : ℕ → Bool) (lo hi h : ℕ) (items : List Item) (new : List Span) : Type 0 where
  pub hold : expand (tree_with start.tree words).table new ≡ spans_from lo items
  pub fills : Fills lo hi new
  pub lawful : AllByRecursion (IsRow (tree_with start.tree words) h) new
  pub new_rows : AllByRecursion (λ (x : Span). is_new (row_in x.word) ≡ true) new
  pub ends : List ℕ
  pub cut : IsCutOf start.tree.table.width (kind_on start.tree.gapped h) items ends
  pub many : length new ≡ length ends

module _ (t : Tree) (is_new : ℕ → Bool) (height : ℕ) (above kind : RowKind) (of_kind : kind ≡ kind_on t.gapped height) (items : List Item) where
  abbrev Good : Span → Type 0
  Good x = IsRow t height x × (is_new (row_in x.word) ≡ true)

  pub held : (at from : ℕ) (ends rows : List ℕ) → AreParts t height at items from ends → length rows ≡ length ends → AreHeld t is_new kind items from ends rows
      → (expand t.table (spans_from at (heads above kind at items from ends rows)) ≡ spans_from at (drop from items)) × AllByRecursion Good (spans_from at (heads above kind at items from ends rows))
  held at from [] rows parts many are = (sym (ap (spans_from at) (none_behind from items (omega arith))), tt)
  held at from (to ∷ ends) [] parts many are = absurd (omega arith)
  held at from (to ∷ ends) (row ∷ rows) parts many are =
      let part = part_of items from to in
      let order = parts.0.some in
      let long = length-part items from to parts.0.within in
      let behind = after_some at 0 part (omega arith) in
      let rest = held (end_of 0 part + 1) to ends rows (subst (λ (n : ℕ). AreParts t height n items to ends) behind parts.1) (omega arith) are.3 in (
        (λ i. new_spans t.table kind row part are.0 at i ++ rest.0 i)
            ∙ sym (ap (spans_from at) (drop_part items from to (omega arith)) ∙ (spans-append at part (drop to items) ∙ ap (λ (n : ℕ). spans_from at part ++ spans_from n (drop to items)) behind)),
        ((new_lawful t height at (after at part) kind row part are.0 of_kind are.2 parts.0.run, ap is_new (row_in-name_at row kind) ∙ are.1), rest.1),
      )

all_first : (A B : Span → Type 0) (xs : List Span) → AllByRecursion (λ (x : Span). A x × B x) xs → AllByRecursion A xs × AllByRecursion B xs
all_first A B [] both = (tt, tt)
all_first A B (x ∷ xs) both = let rest = all_first A B xs both.1 in ((both.0.0, rest.0), (both.0.1, rest.1))

-- what the ledger of rows tells makes the new rows of a layer
pub layer_is_new : (start : Start) (words : List ℕ) (is_new : ℕ → Bool) (h lo hi : ℕ) (kind above : RowKind) (items : List Item) (ends rows : List ℕ) → kind ≡ kind_on start.tree.gapped h → MayBeCut start.tree h lo hi (spans_from lo items)
    → MayBeCut (tree_with start.tree words) h lo hi (spans_from lo items) → IsCutOf start.tree.table.width (kind_on start.tree.gapped h) items ends → length rows ≡ length ends → AreHeld (tree_with start.tree words) is_new kind items 0 ends rows
    → AreNew start words is_new lo hi h items (spans_from lo (heads above kind lo items 0 ends rows))
layer_is_new start words is_new h lo hi kind above items ends rows of_kind run run_now cut many are =
    let both = held (tree_with start.tree words) is_new h above kind of_kind items lo 0 ends rows (cut_makes_parts items run_now cut) many are in
    let laws = all_first (IsRow (tree_with start.tree words) h) (λ (x : Span). is_new (row_in x.word) ≡ true) (spans_from lo (heads above kind lo items 0 ends rows)) both.1 in
    record {
      hold = both.0;
      fills = heads_fill start.tree h above kind items rows run cut many;
      lawful = laws.0;
      new_rows = laws.1;
      ends = ends;
      cut = cut;
      many = length-spans_from lo (heads above kind lo items 0 ends rows) ∙ length-heads above kind lo items 0 ends rows many;
    }

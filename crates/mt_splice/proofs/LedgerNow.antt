-- What the ledger tells while rows are drafted and buried: the tree as it was stands beside the new rows, and is read as it was.
use Rattle.mt_splice.proofs.Prelude.{◌≡◌, ℕ, ◌<◌, List, Option, Some, None, true, false, sym, ap, ◌∙◌, subst, inr, columns, Book, Span, row_in, Tree, Stands, IsTreeOf, is_reached, root_of, Rooted, Sheet, Table, column, level_rows, OnLevel, on_level_law, on_level_reached, times_reached, IsOld, Beside, StandsAs, IsLedger, IsNowOf, Before, IsStartOf, Seen, was_seen, Start, KeepsRowWords, items_of_row, path_in, row_at}
use Rattle.mt_splice.proofs.EndForms.{now_is}
use Rattle.mt_splice.proofs.EndLevels.{levels_each}
use Rattle.mt_splice.proofs.KeptTrees.{Keeps, KeepsAs, RowsKeep, kept_path, kept_row, kept_stands}
use Rattle.mt_splice.proofs.ReadsNow.{items_now}
use Rattle.mt_splice.proofs.Steps.{reached_untaken, table_now, width_now, rows_now}
use Rattle.mt_splice.proofs.StoredWords.{words_of}

module _ {b : Before} {start : Start} {s : Sheet} {book : Book} {taken gone : List Seen} (before : IsStartOf b start) (ledger : IsLedger b s book taken gone) where
  was_reached : (row : ℕ) → is_reached (words_of start.tree) row ≡ true → is_reached b.sheet.tree row ≡ true
  was_reached row reached = sym (ap (λ (t : Tree). is_reached (words_of t) row) before.tree) ∙ reached

  -- a row of the tree was not taken, and keeps its words
  untaken : (h : ℕ) → Stands start.tree h → (k : ℕ) (x : Span) → OnLevel start.tree.table h (root_of start.tree) k x → was_seen taken (row_in x.word) ≡ false
  untaken h stands k x on = reached_untaken before ledger (row_in x.word) (was_reached (row_in x.word) (times_reached start.tree h stands (row_in x.word) (on_level_reached start.tree h stands k x on)))

  keeps : (h : ℕ) → Stands start.tree h → (k : ℕ) (x : Span) → OnLevel start.tree.table h (root_of start.tree) k x → KeepsRowWords start.tree start.tree.table.words s.tree.table.words (row_in x.word)
  keeps h stands k x on c above within =
      let row = row_in x.word in
      let inside : c < columns b.sheet.tree.table.width = subst (λ (t : Tree). c < columns t.table.width) before.tree within in
      ap (λ (t : Table). column t row c) (table_now before ledger) ∙ (ledger.kept row c (untaken h stands k x on) above inside ∙ sym (ap (λ (t : Tree). column t.table row c) before.tree))

  pub keeps_by : {h : ℕ} → Stands start.tree h → Keeps start.tree h s.tree.table.words
  keeps_by {h} stands = record { stands = stands; rows = levels_each (RowsKeep start.tree start.tree.table.words s.tree.table.words) start.tree.table h (root_of start.tree) (keeps h stands) }

  pub keeps_as : (o : Option ℕ) → StandsAs start.tree o → KeepsAs start.tree o s.tree.table.words
  keeps_as None stands = stands
  keeps_as (Some h) stands = keeps_by stands

  module _ (stands : Stands start.tree start.height) where
    pub beside_by : Beside start s.tree.table.words (was_seen taken) 0
    beside_by = record {
      stands = stands;
      rows = λ d h levels low.
          level_rows (IsOld start s.tree.table.words (was_seen taken)) start.tree.table d h start.height (root_of start.tree) levels
          (levels_each (IsOld start s.tree.table.words (was_seen taken)) start.tree.table start.height (root_of start.tree)
          (λ k x on. record { row = on_level_law start.tree start.height stands k x on; keeps = keeps start.height stands k x on; old = untaken start.height stands k x on }));
    }

    -- the words are a tree still
    pub tree_by : IsTreeOf s.tree b.kind
    tree_by = record {
      width = width_now before ledger ∙ before.kept.lawful.width;
      words = inr (start.height, subst (λ (t : Tree). Stands t start.height) (now_is before ledger) (kept_stands (keeps_by stands)));
    }

    pub now_by : IsNowOf start s.tree
    now_by = record {
      rows = rows_now before ledger ∙ sym (ap (λ (t : Tree). t.rows) before.tree);
      width = width_now before ledger ∙ sym (ap (λ (t : Tree). t.table.width) before.tree);
      tree = (b.kind, tree_by);
      paths = λ i within.
          let root : s.tree.root ≡ start.tree.root = ap (λ (t : Rooted). t.root) ledger.tree ∙ sym (ap (λ (t : Tree). t.root) before.tree) in
          sym (λ m. path_in (table_now before ledger m) (sym root m) i) ∙ kept_path (keeps_by stands) i within;
      items = λ i d h within levels kind max.
          ap (λ (t : Table). items_of_row t kind (row_in (row_at start.tree d i).word) max) (sym (table_now before ledger))
          ∙ items_now start.tree.table s.tree.table.words kind (row_in (row_at start.tree d i).word) max (kept_row (keeps_by stands) i d h within levels);
    }

-- How a replacement ends, as a tree, or the empty one, in place of another: by the words now, and a word that is stored.
use Rattle.mt_splice.proofs.Prelude.{◌≡◌, ℕ, Option, sym, ap, ◌∙◌, subst, Book, Root, Slot, Tree, HasWords, Sheet, tree_as, tree_on, with_published, PathStep, Start, tree_with, now, Before, IsStartOf, IsReplaced, with_root, GapsBeside, IsLedger, Seen, List, RowKind, was_seen}
use Rattle.mt_splice.proofs.StoredWords.{column_of, with_step, words_of}

-- the tree by the words now is the sheet's
pub now_is : {b : Before} {start : Start} {s : Sheet} {book : Book} {taken gone : List Seen} → IsStartOf b start → IsLedger b s book taken gone → now start s ≡ tree_as b.kind s.tree
now_is {b = b} {s = s} was ledger = ap (λ (t : Tree). tree_with t s.tree.table.words) was.tree ∙ sym (ap (tree_as b.kind) ledger.tree)

-- The tree t' stands for the map in place of the tree as it was, and its rows keep the law of gaps beside what changes.
pub record IsEnding (start : Start) (taken gone : List Seen) (old new : Option ℕ) (t' : Tree) : Type 0 where
  pub replaced : IsReplaced start.tree t' start.map taken gone old new
  pub gaps : GapsBeside start (was_seen taken) t' new

module _ {b : Before} {start : Start} {s : Sheet} {book : Book} {taken gone : List Seen} (was : IsStartOf b start) (ledger : IsLedger b s book taken gone) where
  pub has_words : HasWords (now start s)
  has_words = subst HasWords (sym (now_is was ledger)) ledger.whole.words

  -- a word stored at the root, and in the slot of a path's row
  pub root_stored : (word : ℕ) → with_root (now start s) word ≡ tree_as b.kind (with_published s.tree Root word)
  root_stored word = ap (λ (t : Tree). with_root t word) (now_is was ledger)

  pub slot_stored : (kind : RowKind) (step : PathStep) (word : ℕ) → with_step (now start s) kind step word ≡ tree_as b.kind (with_published s.tree (Slot step.row (column_of (now start s) kind step)) word)
  slot_stored kind step word = ap (λ (t : Tree). tree_on t.gapped (with_published (words_of t) (Slot step.row (column_of (now start s) kind step)) word)) (now_is was ledger)

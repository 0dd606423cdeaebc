use Rattle.mt_free.proofs.Prelude.{◌≡◌, ◌+◌, ◌≤◌, length, after_reclaim, reclaimable, book_of, IsRowBook}
use Rattle.mt_base.specs.Width.{most_rows}
use Rattle.mt_free.proofs.book.RowBook.reclaim.Given as goal

abbrev pub invariant-loop-held : goal.invariant-loop-held
invariant-loop-held l = record {
  fields : IsRowBook l.self-inside;
  freed : after_reclaim (book_of l.self-inside) l.least ≡ after_reclaim l.fn.self l.least;
  counted : l.count + length (reclaimable l.least l.self-inside.held.items) ≡ length (reclaimable l.least l.fn.self.held);
  few : l.count + length l.self-inside.held.items ≤ most_rows;
}

abbrev pub decreases-loop-held : goal.decreases-loop-held
decreases-loop-held l = length l.self-inside.held.items

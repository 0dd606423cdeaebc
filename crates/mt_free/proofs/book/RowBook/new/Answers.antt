use Rattle.mt_free.proofs.Books.{new_is_book}
use Rattle.mt_free.proofs.book.RowBook.new.Goals as goal

pub invariant_of-result : goal.invariant_of-result
invariant_of-result c = record {
  book = rw (c.in_ok-all_rows.ensures.items, c.in_ok-with_capacity.ensures) (new_is_book c.args.rows c.requires);
  room_to_free = c.in_ok-all_rows.ensures.capacity;
  room_to_hold = cc (c.in_ok-with_capacity.ensures);
}

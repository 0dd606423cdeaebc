use Rattle.mt_free.proofs.Prelude.{◌++◌, [], ◌∷◌, IsBook}
use Rattle.mt_free.proofs.Books.{book, take_leaves_book, taken_is_out}
use Rattle.mt_free.proofs.book.RowBook.take.Goals as goal

pub invariant_of-self : goal.invariant_of-self
invariant_of-self c =
    let b = c.self.inside in
    let before : IsBook (book b.rows (c.pop.new.self.items ++ c.in-Some.row ∷ []) b.held.items) = rw c.in-Some.ensures.items at c.self.invariant.book in
    record {
      book = take_leaves_book b.rows c.pop.new.self.items c.in-Some.row b.held.items before;
      room_to_free = rw c.in-Some.ensures.capacity c.self.invariant.room_to_free;
      room_to_hold = c.self.invariant.room_to_hold;
    }

pub returns-clause-out : goal.returns-clause-out
returns-clause-out c =
    let b = c.self.inside in
    let before : IsBook (book b.rows (c.pop.new.self.items ++ c.in-Some.row ∷ []) b.held.items) = rw c.in-Some.ensures.items at c.self.invariant.book in
    taken_is_out b.rows c.pop.new.self.items c.in-Some.row b.held.items before

-- What the fields of a `RowBook` say.
use Rattle.std.specs.Prelude.{◌≡◌, ◌≤◌, vec_capacity}
use Rattle.mt_free.specs.Book.{Book, IsBook}
use Rattle.mt_free.specs.declared.book.RowBook.TheInside.{Inside}

abbrev pub book_of : Inside → Book
book_of b = record { rows = b.rows; free = b.free.items; held = b.held.items }

-- the fields are a book, and each of the two parts has room for every node
pub record IsRowBook (b : Inside) : Type 0 where
  pub book : IsBook (book_of b)
  pub room_to_free : b.rows ≤ vec_capacity b.free
  pub room_to_hold : b.rows ≡ b.held.capacity

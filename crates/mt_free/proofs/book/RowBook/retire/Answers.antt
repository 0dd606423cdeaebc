use Rattle.mt_free.proofs.Prelude.{arith, book_of}
use Rattle.mt_free.proofs.Books.{out_has_room, retire_leaves_book}
use Rattle.mt_free.proofs.book.RowBook.retire.Goals as goal

pub push_held-requires : goal.push_held-requires
push_held-requires c =
    let b = book_of c.self.inside in
    omega (arith, out_has_room b c.args.row c.self.invariant.book (rw (← c.self.view_is) at c.requires.out))

pub invariant_of-self : goal.invariant_of-self
invariant_of-self c =
    let b = book_of c.self.inside in
    record {
      book = rw c.push_held.ensures.items (retire_leaves_book b c.args.row c.args.stamp c.self.invariant.book (rw (← c.self.view_is) at c.requires.out) (rw (← c.self.view_is) at c.requires.in_order));
      room_to_free = c.self.invariant.room_to_free;
      room_to_hold = omega arith;
    }

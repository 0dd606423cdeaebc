use Rattle.mt_free.proofs.Prelude.{◌≡◌, ◌∷◌, ◌++◌, [], arith, ap, sym, ◌∙◌, length, IsBook, reclaimable, after_reclaim, book_of}
use Rattle.mt_free.proofs.Books.{book, reclaim_leaves_book, first_due, count_first_due, none_due}
use Rattle.mt_free.proofs.book.RowBook.reclaim.Goals as goal

pub loop-held-preserved : goal.loop-held-preserved
loop-held-preserved c =
    let b = c.loop-held.self-inside in
    let h = c.in-Some.held in
    let rest = c.pop_due.new.held.items in
    let before : IsBook (book b.rows b.free.items (h ∷ rest)) = rw c.in-Some.ensures.due.0 at c.loop-held.invariant.fields.book in
    let freed : c.push_free.new.free.items ≡ b.free.items ++ h.row ∷ [] = c.push_free.ensures.items ∙ ap (λ g. b.free.items ++ g.row ∷ []) c.held.view_is in
    record {
      fields = record {
        book = rw freed (reclaim_leaves_book b.rows b.free.items h rest before);
        room_to_free = omega arith;
        room_to_hold = omega arith;
      };
      freed = rw freed (first_due b.rows b.free.items h rest c.args.least c.in-Some.ensures.due.1 ∙ (rw c.in-Some.ensures.due.0 at c.loop-held.invariant.freed));
      counted = omega (arith, count_first_due h rest c.args.least c.in-Some.ensures.due.1, rw c.in-Some.ensures.due.0 at c.loop-held.invariant.counted);
      few = omega (arith, ap length c.in-Some.ensures.due.0);
    }

pub returns-clause-freed : goal.returns-clause-freed
returns-clause-freed c =
    let b = book_of c.loop-held.self-inside in
    let none : (reclaimable c.args.least b.held ≡ []) × (after_reclaim b c.args.least ≡ b) = none_due b c.args.least c.loop-held.invariant.fields.book c.in_default.ensures.later in
    rw c.in_default.ensures.none_due (sym none.1 ∙ c.loop-held.invariant.freed)

pub returns-clause-count : goal.returns-clause-count
returns-clause-count c =
    let b = book_of c.loop-held.self-inside in
    let none : (reclaimable c.args.least b.held ≡ []) × (after_reclaim b c.args.least ≡ b) = none_due b c.args.least c.loop-held.invariant.fields.book c.in_default.ensures.later in
    omega (arith, c.loop-held.invariant.counted, ap length none.0)

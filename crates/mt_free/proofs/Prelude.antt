-- What the proofs beside this file take from the toolchain, from the crates below and from this crate's definitions, under one name. Declares nothing.
pub use Rattle.std.proofs.Common.{All, AllPairs, Bool, Contains, IfSome, List, [], add-one, ap, append-nil, append_assoc, arith, drop, filter, get_or, inl, inr, length, length-append, map, nat_le, nat_lt, refl, slice_get, subst, suc, sym, take, vec_capacity, vec_len, zero, ℕ, ◌++◌, ◌+◌, ◌-◌, ◌<◌, ◌∙◌, ◌∷◌, ◌≡◌, ◌≢◌, ◌≤◌}
pub use Rattle.mt_base.proofs.Std.{All-append, All-cons, All-contains, All-filter, All-head, All-map, All-nil, All-push, All-tail, All-weaker, AllPairs-cons, Contains-append_cases, Contains-append_left, Contains-push, Contains-push_cases, Decides-eqb, all_pairs_push, all_pairs_remove, drop_at, eqb-true, get_or-append-add, get_or-map, get_or_append_left, get_or_at, get_or_default, le-leb, le-ltb, length-map, lt-leb, lt-ltb, map_push, take_at}
pub use Rattle.std.proofs.lemmas.Map.Made.{IsDistinct-from_AllPairs}
pub use Rattle.std.proofs.lemmas.Map.Steps.{length-le_from_distinct_below}
pub use Rattle.std.proofs.lemmas.Map.Views.{Contains-from_any}
pub use Rattle.mt_free.specs.Book.{Book, StampedRow, IsBook, IsOut, IsRowOf, after_reclaim, after_retire, held_rows, new_book, reclaimable, rows_down, still_held}
pub use Rattle.mt_free.specs.RowBook.{IsRowBook, book_of}

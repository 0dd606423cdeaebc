-- What the proofs beside this file take from the toolchain, from the crates below and from this crate's definitions, under one name. Declares nothing.
pub use Rattle.std.proofs.Common.{Bool, Err, IsOk, List, None, Ok, Option, Result, Some, [], ap, append-nil, append_assoc, arith, bytes_eq, codes, drop, eq-eqb, false, get_or, inl, inr, le-ltb, length, length-append, length-drop, length-take, map, nat_lt, ne_eqb, refl, replicate, slice_index, subst, suc, sym, take, true, zero, ℕ, ◌%◌, ◌*◌, ◌++◌, ◌+◌, ◌-◌, ◌/◌, ◌<◌, ◌==◌, ◌^◌, ◌∙◌, ◌∷◌, ◌≡◌, ◌≢◌, ◌≤◌, ◌⊎◌}
pub use Rattle.mt_base.proofs.Std.{All-from_recursion, AllByRecursion, AllPairs, AllPairs-cons, and_parts, cases_Bool, cases_eq, cases_lt, drop-drop, drop_all, drop_at, eqb-true, err_from_is_err_and, ext_get_or, find, flat_map, get_or-drop, length-map, length-replicate, ltb-false, ltb-true, range_with_len, slice_get, slice_range, take-append-drop, take_all}
pub use Rattle.std.proofs.lemmas.Nat.{from_le_bytes-to_le_bytes_8, le_bytes_8}
pub use Rattle.std.specs.Int.{from_le_bytes, to_le_bytes, w64}
pub use Rattle.mt_layout.proofs.Lemmas.{Names-named_kind, few_slots_of, get_or-padded, item_or, layout_of, length-spans_from, slot_within, used, used-slot}
pub use Rattle.mt_rows.proofs.Lemmas.{inner_no_leaf, level_next, once_in, row_most, tally-append}
pub use Rattle.mt_rows.specs.Names.{Gapped, Inner, IsLayout, IsRow, IsTended, IsWhole, Item, Leaf, Levels, Long, MayPlant, OnlyReads, ParentsFrom, RowKind, Short, Span, Stands, StandsAt, Table, Tree, Width, column, gaps_of, inner_of, is_reached, items_in, kind_on, level, one_if, parent_at, root_of, root_span, row_in, row_words, rows_whole, sheet_in, slot_column, slots_of, spans_by, spans_from, spans_in, tally, tree_made, with_published}
pub use Rattle.mt_rows.specs.declared.rows.Place.TheVariants.{Root}
pub use Rattle.mt_free.proofs.Rows.{apart_are_few}
pub use Rattle.mt_free.specs.Book.{Book}
pub use Rattle.mt_check.proofs.Complete.{complete}
pub use Rattle.mt_check.proofs.Whole.{ok_lawful}
pub use Rattle.mt_check.specs.Check.{first_or, form_of}
pub use Rattle.mt_dup.proofs.NewTables.{new_long}
pub use Rattle.mt_dup.specs.Copy.{AreInOrder, IsNewBut, slot_renamed, with_new_row}
pub use Rattle.mt_image.specs.Bytes.{image_of, image_parts, kind_code, tree_with_words, words_of}
pub use Rattle.mt_image.specs.Images.{IsImageOf, IsImageOfMap, IsOrderedCopy}
pub use Rattle.mt_image.specs.Orders.{AreRowsInOrder, IsGood, IsTable, stray_from, stray_in}
pub use Rattle.mt_image.specs.Prelude.{Fault, Form, IsCopy, IsLawfulOf, IsMadeOf, Kind, Range, Rooted, Sheet, checked, columns, first_row, kind_width, map_by, most_rows, reached_in, tree_as}
pub use Rattle.mt_image.specs.Reading.{AreBytes, HoldImage, Image, all_kinds, behind_head, image_length, image_of_kind, image_tree, image_words, lawful, number_at, placed}
unfoldable pub use Rattle.mt_image.specs.Reading.{image_in, kind_numbered, numbers_from}
pub use Rattle.mt_image.specs.declared.errors.ImageError.{ImageError}
pub use Rattle.mt_image.specs.declared.errors.ImageError.TheVariants.{Broken}

-- What the proofs beside this file take from the toolchain, from the crates below and from this crate's definitions, under one name. Declares nothing.
pub use Rattle.std.proofs.Common.{List, None, Some, [], ap, append-nil, append_assoc, arith, drop, eq-eqb, false, flat_map, get_or, if◌then◌else◌, inl, inr, le-leb, le-ltb, length, length-append, length-drop, length-set, length-take, length-take-le, lt-ltb, map, max, nat_le, nat_lt, ne_eqb, refl, replicate, rules, slice_index, slice_index_or, subst, suc, sym, take, true, zero, zero-add, ℕ, ⊎_elim, ◌%◌, ◌*◌, ◌++◌, ◌+◌, ◌-◌, ◌/◌, ◌<◌, ◌==◌, ◌∙◌, ◌∷◌, ◌≡◌, ◌≢◌, ◌≤◌, ◌⊎◌}
pub use Rattle.mt_base.proofs.Std.{cases_Bool, cases_eq, cases_lt, common_steps, drop_all, drop_more, eqb-true, ext_get_or, get_or-append_right, get_or-take, get_or_append_left, length-map, length-replicate, lt-leb, mul-add, mul-le-mul_left, mul_comm}
pub use Rattle.std.proofs.lemmas.Nat.{div-mul-add, mod-mul-add, mul-add-lt}
pub use borrow.Rule.Slice.PartMut.{put_mid}
pub use Rattle.mt_base.proofs.WidthBounds.{many_columns}
pub use Rattle.mt_layout.specs.Columns.{FitRow, IsLayout, NoGaps, RiseFrom, end_of, gap_at, gap_column, gap_words, greatest_gap, item_at, items_at, items_from, longest_hole, padded_to, pivot_column, pivot_words, row_words, slot_column, slot_words}
pub use Rattle.mt_layout.specs.Prelude.{Long, Range, Short, Width, columns, first_row}
pub use Rattle.mt_layout.specs.Rows.{IsRowNumber, Names, dead_mark, name_at, named_kind, named_row, parent_at, row_in}
pub use Rattle.mt_layout.specs.Sizes.{gaps_of, least_items, run_room, slots_of}
pub use Rattle.mt_layout.specs.Spans.{Apart, BeginsFull, EndsFull, Fills, leaf_range, spans_from}
pub use Rattle.mt_layout.specs.declared.items.Item.{Item}
pub use Rattle.mt_layout.specs.declared.names.RowKind.{RowKind}
pub use Rattle.mt_layout.specs.declared.spans.Span.{Span}

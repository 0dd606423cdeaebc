-- What the proofs beside this file take from the toolchain, from the crates below and from this crate's definitions, under one name. Declares nothing.
pub use Rattle.std.proofs.Common.{List, Option, Some, [], ap, append_assoc, arith, codes, inl, inr, length, refl, replicate, rules, slice_index, string_bytes, subst, suc, sym, take, zero, ℕ, ◌*◌, ◌++◌, ◌+◌, ◌-◌, ◌<◌, ◌∙◌, ◌∷◌, ◌≡◌, ◌≢◌, ◌≤◌}
pub use Rattle.std.proofs.Output.{has_written_append, has_written_of_eq}
pub use Rattle.mt_base.proofs.Std.{cases_lt, ext_get_or, flat_map, flat_map_more, fold, fold-append, map-id, map-range_with_len_more, range_with_len, take_all}
pub use Rattle.std.specs.Fmt.{HasWritten, IsPlainFormatter, decimal}
pub use Rattle.mt_rows.proofs.Deeper.{row_named}
pub use Rattle.mt_rows.specs.Names.{Rooted, Sheet, columns, first_row, greatest, sheet_in}
pub use Rattle.mt_image.proofs.Rewritten.{read_is_good}
pub use Rattle.mt_image.specs.Bytes.{words_of}
pub use Rattle.mt_image.specs.Orders.{IsTable}
pub use Rattle.mt_image.specs.Reading.{AreBytes}
pub use Rattle.mt_draw.specs.Drawn.{IsPicture, IsTreeIn, IsTreeOfImage}
pub use Rattle.mt_draw.specs.Prelude.{Gapped, Image, Inner, Leaf, RowKind, Span, Table, deepest, height_in, kind_width, named_kind, row_in, spans_in}
pub use Rattle.mt_draw.specs.Texts.{body_of, dump_head, indent_text, longest_slot, pair_text, row_text, slot_at, slot_line, tree_text}
unfoldable pub use Rattle.mt_draw.specs.Texts.{dump_text}
pub use Rattle.mt_draw.specs.Trees.{gap_of_slot, node_at, nodes_of, table_of, with_below}
pub use Rattle.mt_draw.specs.declared.forms.PictureForm.{PictureForm}
pub use Rattle.mt_draw.specs.declared.trees.DrawnTree.{DrawnTree}
pub use Rattle.mt_draw.specs.declared.trees.Node.{Node}

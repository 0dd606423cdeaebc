-- What the definitions beside this file take from the toolchain and from the crates below, under one name. Declares nothing.
pub use Rattle.mt_rows.specs.Names.{Apart, Call, EndsFull, Fills, GapLaw, Gapped, HasGapsBut, Inner, IsBelow, IsFree, IsLawfulOf, IsPlace, IsReached, IsRow, IsRowNumber, IsSlotAt, IsToldKind, IsTreeOf, IsWhole, Item, KeepsGaps, Kind, Leaf, Levels, LiveAreReached, MayBury, MayTend, NoneBuried, OnlyReads, ParentLaw, Range, Reply, RiseFrom, Rooted, RowKind, SameColumns, Sheet, Span, Stands, StandsAt, Table, Tree, Width, acted, after_bury, base_of, column, columns, dead_mark, end_of, expand, finds_room, first_row, gaps_of, greatest, height_in, inner_of, is_buried, is_reached, is_row_of, items_at, kind_on, kind_width, leaf_range, least_items, least_of, level, life_of, longest_below, longest_under, map_by, map_of, name_at, named_kind, named_row, over, parent_at, reserved, root_of, root_span, row_in, row_spans, row_words, slot_column, slots_of, spans_from, spans_in, tally, tended, times, top_of, tree_as, with_published, with_record, word_at}
pub use Rattle.mt_rows.specs.declared.rows.Life.{Life}
pub use Rattle.mt_rows.specs.declared.rows.Life.TheVariants.{Dead, Draft, Live, New}
pub use Rattle.mt_rows.specs.declared.rows.Place.{Place}
pub use Rattle.mt_rows.specs.declared.rows.Place.TheVariants.{Root, Slot}
pub use Rattle.mt_free.specs.Book.{Book, StampedRow, IsBook, IsOut, IsRowOf, after_retire}
pub use Rattle.mt_leaf.specs.Cuts.{IsCut}
pub use Rattle.mt_leaf.specs.Edits.{edited, starting}
pub use Rattle.mt_leaf.specs.Places.{with_joined}
pub use Rattle.mt_path.specs.Handles.{last_step, leaf_spans}
pub use Rattle.mt_path.specs.Paths.{path_in, row_on, slot_for, span_at, step_at, step_in}
pub use Rattle.mt_path.specs.declared.paths.PathStep.{PathStep}

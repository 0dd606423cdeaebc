-- What the definitions beside this file take from the toolchain and from the crates below, under one name. Declares nothing.
pub use Rattle.mt_rows.specs.Names.{Fills, GapLaw, Gapped, HasGaps, HasGapsBut, Hole, Inner, IsLawfulOf, IsPlace, Item, Kind, Leaf, Levels, LiveAreReached, MayTend, NoneBuried, OnlyReads, ReadsUpTo, Rooted, RowKind, SameSpans, Sheet, Span, Stands, Table, Tree, base_of, column, columns, covers, finds_room, gap_at, gap_column, gaps_of, greatest, height_in, highest_in, holes_to, is_buried, items_at, kept, kind_on, life_of, loaded, longest_below, longest_in, lowest_in, map_by, named_kind, pivot_column, root_of, root_span, row_in, row_spans, slot_column, slots_of, spans_in, tree_on, with_word, word_at}
pub use Rattle.mt_rows.specs.declared.rows.Life.TheVariants.{Live}
pub use Rattle.mt_path.specs.Handles.{handle_in, last_step, leaf_in, leaf_spans}
pub use Rattle.mt_path.specs.Paths.{loads_at, loads_on, path_in, row_on, span_at, step_at}
pub use Rattle.mt_path.specs.declared.paths.PathStep.{PathStep}

-- What the definitions beside this file take from the toolchain and from the crates below, under one name. Declares nothing.
pub use Rattle.mt_rows.specs.Names.{Alloc, Call, Clear, Erase, Find, Gap, Gapped, HasGapsBut, Insert, IsLawfulOf, IsReached, IsRealShortage, IsRefused, IsScan, IsShort, IsToldKind, IsTreeOf, Kind, Leaf, LiveAreReached, Load, MayFinish, NoneBuried, OnlyReads, Ralloc, Range, ReadsUpTo, Reply, Rgap, Rooted, RoseUpTo, Sheet, Shortage, Span, Store, StorePre, Wants, WasScanned, Width, acted, answer, columns, finished, first_met, first_row, greatest, height_in, high_to, holding, is_exact_store, is_held, is_reached, life_of, limits_of, low_to, map_by, most_taken, scanned, slot_column, slots_of, tree_as, with_record, with_word, word_at}
pub use Rattle.mt_rows.specs.declared.rows.Life.{Life}
pub use Rattle.mt_rows.specs.declared.rows.Life.TheVariants.{Dead}
pub use Rattle.mt_rows.specs.declared.rows.Place.{Place}
pub use Rattle.mt_rows.specs.declared.rows.Place.TheVariants.{Root, Slot}
pub use Rattle.mt_free.specs.Book.{Book, StampedRow, after_reclaim, live_count}
pub use Rattle.mt_path.specs.Handles.{IsHandleOf, handle_in, last_step, leaf_in}
pub use Rattle.mt_path.specs.Paths.{loads_on, path_in, step_at}
pub use Rattle.mt_path.specs.declared.handles.Handle.{Handle}
pub use Rattle.mt_path.specs.declared.paths.PathStep.{PathStep}
pub use Rattle.mt_gap.specs.Mending.{OnlyWords}
pub use Rattle.mt_splice.specs.Kept.{IsConsistent}
pub use Rattle.mt_splice.specs.Splice.{HasParents, IsStoreBy}
pub use Rattle.mt_list.specs.Places.{last_of, place_above, place_below}

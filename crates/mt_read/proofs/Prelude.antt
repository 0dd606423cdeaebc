-- What the proofs beside this file take from the toolchain, from the crates below and from this crate's definitions, under one name. Declares nothing.
pub use Rattle.std.proofs.Common.{Bool, IfNone, IfSome, IsSome, List, None, Option, Some, [], ap, append-nil, append_assoc, arith, drop, false, filter, find, if◌then◌else◌, inl, inr, le-ltb, length, lt-ltb, map, max, min, nat_le, nat_lt, option_map, refl, rules, slice_index, slice_index_or, slice_set, subst, suc, sym, take, true, unwrap_or, zero, ℕ, ⊎_elim, ◌&&◌, ◌*◌, ◌++◌, ◌+◌, ◌-◌, ◌<◌, ◌==◌, ◌∙◌, ◌∷◌, ◌≡◌, ◌≢◌, ◌≤◌, ◌⊎◌}
pub use Rattle.mt_base.proofs.Std.{AllByRecursion, and_left, and_parts, and_right, cases_Bool, cases_lt, drop_more, eq-eqb, eqb-false, eqb-true, flat_map, flat_map-append, get_or_from_slice_get, le-leb, leb-false, leb-true, length-map, length-take-le, length_push, lt-leb, ltb-false, ltb-true, map-append, min-eq_left, mul-add, ne_eqb, set_at, slice_get, slice_get-get_or, slice_get_within, take_more, take_more_set}
pub use lib.ListN.{get_elem?}
pub use mathlib.Core.Option.{some, some-injective}
pub use Rattle.mt_base.proofs.Lemmas.{all_back, all_front, all_join, all_map, begins_long, begins_none, begins_on, get_parts, greatest_fits, none_found_above, none_holds_above, none_next_above, prev_above, rfind_above}
pub use Rattle.mt_layout.proofs.Lemmas.{few_slots_of, fills_le, fills_split, full_back, full_behind_hole, least-below-slots, length-spans_from, none_filled, some_slots_of}
pub use Rattle.mt_rows.proofs.Lemmas.{Between, leaf_between, leaf_low}
pub use Rattle.mt_rows.specs.Names.{Apart, BeginsFull, EndsFull, Fills, IsMapFrom, Leaf, RowKind, Span, Table, base_of, column, columns, dead_mark, deepest, find_at, finds_room, first_range, gaps_of, greatest, holding, holds, items_at, items_from, kind_at, last_range, map_at, named_kind, pivot_column, place_behind, row_in, slot_column, spans_from}
pub use Rattle.mt_life.proofs.Slots.{hole_of_form, slot_of_form, span_in_slot}
pub use Rattle.mt_life.specs.Known.{HasPart, SameForm}
pub use Rattle.mt_life.specs.Moments.{Cut, IsPart}
pub use Rattle.mt_life.specs.declared.views.Extent.{Extent}
pub use Rattle.mt_path.proofs.Groups.{IsSought, ends_within, first_behind, here_used, last_at_end, last_at_pivot, of_sixteen, of_ten, of_thirty_two, of_twenty_one, row_at, slot_fits}
pub use Rattle.mt_path.proofs.LeafSlots.{StandsIn, fills_first, fills_next, stands_in}
pub use Rattle.mt_path.proofs.Places.{at_get, at_slot}
pub use Rattle.mt_path.proofs.Searches.{Ends, Passed, ends_at_last, ends_at_pivot, passed_more}
pub use Rattle.mt_path.specs.Paths.{no_span, slot_for, span_at}
pub use Rattle.mt_rule.proofs.Moments.{moment_within}
pub use Rattle.mt_rule.specs.Names.{Comes, Identity, IsCounted, IsPassOf, LoadedBegun, LoadedChild, LoadedCommits, LoadedEntry, LoadedParent, LoadedPivot, LoadedRootRow, LoadedSlot, ParentTells, Stepped, column_at, floor_or, held_behind, identity_of, known_by, marks_with, moment_at, part_of, record_of, records_of, slots_in, touched, tree_in, tree_of}
pub use Rattle.mt_rule.specs.declared.passes.Pass.{Pass}
pub use Rattle.mt_rule.specs.declared.views.Moment.{Moment}
pub use Rattle.mt_rule.specs.declared.views.Shape.{Shape}
pub use Rattle.mt_read.specs.Answers.{Answers, AnswersBy, LeafAnswers, not_below, within}
pub use Rattle.mt_read.specs.Cursors.{IsOnKeptLeaf, IsOver, LeafWasMarked, Resumed, epoch_or, epochs_opened, kept_lo, row_of}
pub use Rattle.mt_read.specs.Leaves.{GoesByLeaves, HasReached, IsHoldOf, KeepsReached, LooksFrom, LooksOn, WalkStand, WentByLeaves, stand}
pub use Rattle.mt_read.specs.Neighbours.{IsBehind, IsLeafBefore, IsLeafOver, LeftHole, LeftMarked, MarkedBeside, WasLeftMarked, WasMoved, asked}
pub use Rattle.mt_read.specs.Prelude.{Begins, Find, HasBecome, Held, IsAt, IsLeafRead, IsMap, IsRowAt, Kind, Load, Long, Next, PassPart, Prev, Query, Range, Reads, Rfind, Short, Snapshot, Width, answer, closed_section, copy_of, greatest_of, here, inner_kind, kind_of, kind_width, leaf_range, moment_seen, opened_section, slots_of, spans_at, spans_here, with_seen}
pub use Rattle.mt_read.specs.Seeks.{CoversHere, IsAtLeaf, IsAtSpot, row_here, row_steps, steps_below, lines_touched}
pub use Rattle.mt_read.specs.Walks.{GoesOn, GoesOnTo, IsOnLeaf, IsOnRow, IsPlaceIn, IsSameHold, IsUnder, SeesMore, WasMarked, WasRead, range_or_hole, sought, steps_down}
pub use Rattle.mt_read.specs.Windows.{Began, Ended, HasRead}
pub use Rattle.mt_read.specs.declared.cursor.Cursor.{Cursor}
pub use Rattle.mt_read.specs.declared.cursor.KeptLeaf.{KeptLeaf}
pub use Rattle.mt_read.specs.declared.descent.Row.{Row}
pub use Rattle.mt_read.specs.declared.descent.SlotPlace.{SlotPlace}
pub use Rattle.mt_read.specs.declared.seeks.Spot.{Spot}
pub use Rattle.mt_read.specs.Many.{AreEntries, AreSteps, AtStore, EntriesPut, HasFound, InMap, IsSeenFrom, RangesPut, ReadAt, SeenAt, entry_in, entry_or_zero, map_with_seven}

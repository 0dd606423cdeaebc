-- What the proofs beside this file take from the toolchain, from the crates below and from this crate's definitions, under one name. Declares nothing.
pub use Rattle.atomic_table.specs.declared.badge.Badge.{Badge}
pub use Rattle.atomic_table.specs.declared.shared.Seat.{Seat}
pub use Rattle.std.proofs.Common.{All, Bool, Contains, Err, Global, IfErr, IfOk, IfSome, IsOk, IsSome, IsTrue, List, None, Ok, Option, Result, Some, Vec, [], ap, arith, drop, false, filter, fold, get_or, if◌then◌else◌, inl, inr, length, length-set, map, min, nat_le, nat_lt, not, option_map, refl, replicate, rules, set, slice_get, slice_index, slice_index_or, subst, suc, sym, take, true, unwrap_or, zero, ℕ, ⊎_elim, ◌&&◌, ◌*◌, ◌++◌, ◌+◌, ◌-◌, ◌/◌, ◌<◌, ◌==◌, ◌^◌, ◌||◌, ◌↔◌, ◌∙◌, ◌∷◌, ◌≡◌, ◌≢◌, ◌≤◌, ◌⊎◌}
pub use Rattle.mt_base.proofs.Std.{All-from_get_or, All-from_recursion, All-more, All-nil, All-replicate, All-take, All-weaker, AllByRecursion, Contains-get_or, IfErr-weaker, IfOk-weaker, append-nil, append_assoc, cases_Bool, cases_eq, cases_lt, cond_both, eqb-true, fold-append, get_or-map, get_or-map-range_with_len, get_or_default, get_or_past, le-leb, le-ltb, leb-false, leb-true, length-append, length-map, length-take-le, lt-leb, lt-ltb, map-append, mul_assoc, mul_comm, or_parts, pow-succ', range_with_len, slice_get-get_or, slice_get-map, slice_get_within, take-append_seam, take-length, take_all, take_more, zero-min}
pub use Rattle.std.specs.declared.snapshot.Snapshot.{Snapshot}
pub use Rattle.mt_base.proofs.Lemmas.{IsPlain, acted_plainly, all_map, begins_long, begins_on, each_once, few_unheld, high_is_room, low_is_room, saw_grows, saw_wrote, still_short, stored_area, valid_order, was_acted}
pub use Rattle.mt_base.specs.Names.{AreLegalFrom, IsAnswered, IsLegal, IsMap, IsMapFrom, IsRoom, IsSettled, IsSound, Limits, NamesReader, Read, Saw, Settled, answer, columns, deepest, erased, first_met, first_row, greatest, high, holding, holds, is_bad_area, is_held, is_invalid, is_no_area, low, map_after, map_at, most_calls, over, overlaps, part_stored, parts_above, parts_below, placed, places, replied, reserved, without}
pub use Rattle.mt_rows.specs.Names.{Alloc, Clear, Done, Erase, Gap, HasDied, Insert, IsScan, IsTreeOf, IsWhole, LiveAreReached, MayPlant, NoNodes, OnlyReads, Planted, Ralloc, Rgap, Store, StorePre, Width, Worn, height_in, is_reached, life_of, new_sheet, one_if, root_span, rows_whole, sheet_in, with_published, with_record}
pub use Rattle.mt_rows.specs.declared.plain.PlainRows.{PlainRows}
pub use Rattle.mt_rows.specs.declared.rows.Life.{Life}
pub use Rattle.mt_rows.specs.declared.rows.Life.TheVariants.{Dead, Live, New}
pub use Rattle.mt_rows.specs.declared.rows.Place.TheVariants.{Root}
pub use Rattle.mt_rows.proofs.Loads.{reads_on}
pub use Rattle.mt_free.proofs.Books.{new_is_book}
pub use Rattle.mt_free.specs.Book.{StampedRow, IsBook, live_count}
pub use Rattle.mt_life.specs.declared.views.Extent.{Extent}
pub use Rattle.mt_dup.proofs.NewTables.{new_long}
pub use Rattle.mt_dup.specs.Copy.{IsBookOfCopy, IsNewBut}
pub use Rattle.mt_image.proofs.FewReached.{few_reached}
pub use Rattle.mt_image.proofs.ReadBack.{image_of_map}
pub use Rattle.mt_image.specs.Images.{IsImageOfMap}
pub use Rattle.mt_splice.proofs.LiveRows.{live_is_reached}
pub use Rattle.mt_splice.specs.Kept.{IsBookOf, IsUnheld}
pub use Rattle.mt_engine.proofs.FreshEngine.{fresh_is_idle}
pub use Rattle.mt_engine.proofs.Levelled.{levelled}
pub use Rattle.mt_engine.proofs.Moments.{idle_if_read, tree_if_lawful}
pub use Rattle.mt_engine.proofs.Scanned.{is_scanned}
pub use Rattle.mt_engine.specs.Engine.{DidOrLacked, IsApplied, IsCarriedOut, IsEnded, IsEngineState, IsShortFor, IsState, is_refusal}
pub use Rattle.mt_engine.specs.Rooms.{IsScanned, IsShortOf}
pub use Rattle.mt_engine.proofs.Slots.{tree_map, tree_within}
pub use Rattle.mt_engine.proofs.Walking.{none_given, one_given, ranges_from}
pub use Rattle.mt_rule.proofs.Beginnings.{places_last}
pub use Rattle.mt_rule.proofs.Moving.{shown_with}
pub use Rattle.mt_rule.proofs.Returned.{come_back}
pub use Rattle.mt_rule.proofs.Seating.{map_set_same}
pub use Rattle.mt_rule.specs.Names.{AreOpening, IsOneHistory, first_row_column, known_by, least_number, new_pen, opening_life, record_of, root_at, rooted_in, shape_opened, steps_made}
pub use Rattle.mt_rule.specs.declared.views.PassPart.{PassPart}
pub use Rattle.mt_pen.specs.Sheets.{HasSeenAll, sheet_told, shown_all, told_of}
pub use Rattle.mt_pen.specs.Works.{OpensSmall}
pub use Rattle.mt_ids.specs.Allocation.{IsNextCall}
pub use Rattle.mt_read.specs.Leaves.{WentByLeaves, stand}
pub use Rattle.mt_tree.specs.Allocations.{allocation_of, is_alone, last_made}
pub use Rattle.mt_tree.specs.Behind.{AreRowsOf, Behind, IsAtRest, IsCountBehind, IsOnlyRead, IsPenAtRest, IsReady, IsStoreReply, after_show, behind_lock, parts_of}
pub use Rattle.mt_tree.specs.Calls.{HasCalled}
pub use Rattle.mt_tree.specs.Copies.{AreWordsOf, IsForNodes, IsLiveCounted, IsReadyToOpen, IsRefusal, live_rows}
pub use Rattle.mt_tree.specs.Looks.{IsFormBehind, IsImageBehind, IsImagedBehind, IsLeastBy, IsLookAt, IsOldest, IsStatsOf, TellsRows, WasFound, looked_words}
pub use Rattle.mt_tree.specs.Meeting.{AreShown, HaveMet, Shown}
pub use Rattle.mt_tree.specs.Prelude.{Book, Call, Cursor, Form, HasHeight, HasRead, HasRoom, HasStepped, History, Holder, Identity, IsIdle, IsImageOf, IsLawfulOf, IsOver, IsOverPlace, IsRealShortage, IsScanOf, IsSeatedAt, IsShort, Kind, LeafWasMarked, MarksKeptLeaf, Moment, Next, Parts, Pass, PenPart, Prev, Query, Range, Record, Reply, Rfind, Rooted, Scan, Shape, Sheet, Shortage, TellsBook, Told, TurnView, Wants, WasShown, Wrote, acted, after_reclaim, epoch_or, find_at, form_of, holder_of, identity_of, identity_of_pen, kind_width, last_map, limits_after, map_by, most_rows, new_pass, part_of, pass_in, pen_in, pen_joined, pen_sheet, place_behind, reached_in, records_of, table_size, tree_as, tree_in, tree_of, tried, turn_seat, unscanned, with_records}
pub use Rattle.mt_tree.specs.Shapes.{first_bad}
pub use Rattle.mt_tree.specs.Trees.{Acts, AreAll, IsDecided, IsDecidedOrMade, IsNew, IsOpen, IsPassOf, IsShortNow, IsWorn, LacksRows, LeavesRoom, LiesBehind, NamesPass, Rests, TriesOnce, WasAnsweredBy, WasPrepared, limit_of, map_seen, opened, passes_of, place_of, seen_by}
pub use Rattle.mt_tree.specs.Tries.{WasMade, first_tried}
pub use Rattle.mt_tree.specs.Works.{AreBack, AtWork, IsSeatOf, IsWorker, LookedBehind, LookedUnder, pass_of_told, records_told, shown_pass}
pub use Rattle.mt_tree.specs.Zeros.{AreZero}
pub use Rattle.mt_tree.specs.declared.behind.Tools.{Tools}
pub use Rattle.mt_tree.specs.declared.shapes.DupError.{DupError}
pub use Rattle.mt_tree.specs.declared.shapes.Field.{Field}
pub use Rattle.mt_tree.specs.declared.receipts.Look.{Look}
pub use Rattle.mt_tree.specs.declared.shapes.Stats.{Stats}
pub use Rattle.mt_tree.specs.declared.trees.Tree.{Tree}
pub use Rattle.mt_tree.specs.Overwrites.{TellsMet, map_met, ranges_met}
pub use Rattle.mt_tree.specs.Reserve.{BreaksReserve, HasReserve, IsChange, IsCountAfter, IsCountBy, IsCountDone, IsCountGiven, IsGain, IsReserveVerdict, TellsChange, most_after, part_before, part_behind, part_own, range_count, ranges_after}
pub use Rattle.mt_tree.specs.RowsFor.{level_from, levels_for, levels_from, rows_for, rows_told}
pub use Rattle.mt_tree.specs.declared.counts.Change.{Change}
pub use Rattle.mt_tree.specs.declared.reserve.ReserveVerdict.{ReserveVerdict}

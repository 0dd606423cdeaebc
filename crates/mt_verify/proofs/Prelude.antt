-- What the proofs beside this file take from the toolchain, from the crates below and from this crate's definitions, under one name. Declares nothing.
pub use Rattle.std.proofs.Common.{Bool, Bor, Err, Global, IfNone, IfOk, IfSome, IsPermutation, IsSome, IsTrue, List, MatchOption, None, Option, Result, Some, Vec, [], ap, arith, below_more, codes, cond, decimal, drop, drop-cons, false, filter, find, fold, get_or, get_or-set_other, get_or-set_same, if◌then◌else◌, inl, inr, is_some, length, length-append, map, max, min, nat_le, nat_lt, not, option_map, option_to_list, refl, replicate, rules, set, slice_get, slice_set, subst, suc, sym, take, true, unwrap_or, zero, ℕ, ◌&&◌, ◌*◌, ◌++◌, ◌+◌, ◌-◌, ◌/◌, ◌<◌, ◌==◌, ◌^◌, ◌||◌, ◌↔◌, ◌∙◌, ◌∷◌, ◌≡◌, ◌≢◌, ◌≤◌, ◌⊎◌}
pub use Rattle.mt_base.proofs.Std.{All, All-from_recursion, All-head, All-permutation, All-push, All-tail, AllByRecursion, AllPairs, Contains, Contains-get_or, Contains-permutation, IsPermutation-cons, IsPermutation-keeps, IsPermutation-map, IsPermutation-refl, IsPermutation-swap, IsPermutation-sym, IsPermutation-to_front, IsPermutation-trans, all_pairs_push, and_from, and_left, and_parts, and_right, append-nil, append_assoc, cases_Bool, cases_eq, cases_lt, cond_both, cons_option, drop_more, enumerate_from, eq-eqb, eqb-false, eqb-true, filter-append, filter_map, filter_map-append, flat_map, flat_map-append, fold_more, get_or-drop, get_or-enumerate_from, get_or-map, get_or-map-range_with_len, get_or-replicate, get_or-take, get_or_append_left, get_or_at, get_or_default, get_or_from_slice_get, get_or_push, iff_false, le-leb, le-ltb, leb-true, length-drop, length-enumerate_from, length-map, length-map-range_with_len, length-replicate, length-set, length-take, length_permutation, length_push, list_any, lt-leb, lt-ltb, ltb-true, map-append, map-range_with_len_more, map-set, nat_tests, none-some, or_parts, range_with_len, recursion_from_All, same_Some, same_lists, slice_get-get_or, slice_get-map, slice_get_cases, slice_get_within, slice_index, sum_by-IsPermutation, sum_by-append, sum_by-cons, swap, take-append-drop, take-nil, take_all, take_more, true≢false, with_items_is}
pub use Rattle.std.specs.Vec.{with_items}
pub use Rattle.mt_base.proofs.Lemmas.{acted_is_map, all_join, all_map, get_parts, greatest_fits, high_is_room, is_held_where_met, low_is_room, part_is_free, stored_area, valid_order}
pub use Rattle.mt_log.proofs.Following.{CallSays, CanAllFollow, ItemSays, at_line}
pub use Rattle.mt_log.proofs.LogsRead.{log_follows}
pub use Rattle.mt_log.proofs.Readable.{are_readable}
pub use Rattle.mt_log.specs.Names.{AreDone, AreLegalFrom, AreNamedFrom, AreScanSteps, Asked, Find, Follows, InOrder, IsAnswered, IsDone, IsHeldRightly, IsLegal, IsLog, IsMapFrom, IsRoom, IsShort, IsTrueOf, Load, NamesBelow, Next, Ok, OpensAs, Prev, Query, ReadSoFar, Rfind, ScanGoesOnFrom, StandsIn, Wants, after_item, asked_from, calls_before, count_after, cut_above, cut_below, declared_by, entry_of, entry_text, erased, find_at, first_range, found, greatest_of, holder_in, holder_of, holds, is_answered, is_call, is_exact_store, is_no_area, is_read_by, kind_width, lane_after, lane_of, last_map, last_range, limits_after, listings_of, map_after, map_by_reply, most_lanes, most_scan_steps, nothing_read, over, overlaps, part_stored, parts_above, parts_below, phase_after, place_after, place_within, placed, range_text, record_in, renamed, reserved, scan_steps_of, step_of, steps_of, trees_from, without}
pub use Rattle.mt_log.specs.declared.lines.Item.TheVariants.{Ask, Check, Dup, Join, Scan, Tree}
pub use Rattle.mt_log.specs.declared.lines.Line.{Line}
pub use Rattle.mt_log.specs.declared.transcripts.Entry.{Entry}
pub use Rattle.mt_log.specs.declared.trees.KnownTree.{KnownTree}
pub use Rattle.mt_told.proofs.OneWay.{AreOneNumber, numbers_apart}
pub use Rattle.mt_told.proofs.Versions.{none_told, only_told, printed_told}
pub use Rattle.mt_told.specs.Fronts.{IsNumberBefore}
pub use Rattle.mt_told.specs.Numbers.{EndsNumber}
pub use Rattle.mt_told.specs.Telling.{IsSmall, IsSmallRange, IsSpelledOf, IsTold, IsToldBy, TellsNone, spelling_of}
pub use Rattle.mt_told.specs.declared.reading.Account.{Account}
pub use Rattle.mt_verify.specs.AllGone.{HaveGoneTo, IsGoneTree, IsToldRun, NoneIsTold, OpensGone, listing_by, listings_by}
pub use Rattle.mt_verify.specs.Answers.{same_answer}
pub use Rattle.mt_verify.specs.Choices.{AreChosen, AreClosed, AreFirst, IsLate, IsNowhere, Passes}
pub use Rattle.mt_verify.specs.Going.{AllLeast, AllStopped, AreAnswered, AreAt, AreFresh, AreFreshStops, AreLanesDone, AreOn, AreStopsWithin, AreWithin, HavePassed, HavePassedAll, IsAnsweredAt, IsGone, IsLastMap, Lane, SomeHasNone, SomeStuck, SomeWaits, looks_of, opened_of}
pub use Rattle.mt_verify.specs.GoneTrees.{AreMisheard, CannotGo, GoneTree, HasGone, IsGoneFrom, IsHindered, gone_map, lane_looks}
pub use Rattle.mt_verify.specs.Heard.{AreReaders, HasReadBy, IsNumberAlone, IsReader, IsSmallShortage, SaysShortage, reads_by, shortage_printed}
pub use Rattle.mt_verify.specs.Hearing.{AreNotedOf, IsHeardOf, IsNotedOf}
pub use Rattle.mt_verify.specs.Histories.{AreHeard, AreRecordsOf, IsHeard, IsHeardAt, IsRecordOf, IsReplyOf, IsShortAs, history_of, is_nomem, map_after_noted, map_heard, map_of_noted, record_noted, records_noted, reply_heard}
pub use Rattle.mt_verify.specs.LaneReads.{LanesArePicked, by_lane, look_by, look_of, look_told, looks_on, looks_told, points_on}
pub use Rattle.mt_verify.specs.Looks.{AreLeastOf, ArePicked, ArePickedBelow, CanTake, ComesTo, IsFirstPoint, IsStuck, IsTrueIn, IsTrueOn, KnowsAll, MayHave, Passed, floor_at, hi_in, lo_in}
pub use Rattle.mt_verify.specs.Marked.{Admits, AreMarked, Gather, lane_place}
pub use Rattle.mt_verify.specs.Merging.{cell_of, points_at}
pub use Rattle.mt_verify.specs.Openings.{OpensAsMap, just_opened}
pub use Rattle.mt_verify.specs.OwnLines.{calls_below, calls_in, entered, line_on, lines_on, look_by_lane, looks_by_lane, stop_at, stops_told}
pub use Rattle.mt_verify.specs.Points.{AreAlike, AreLeastPoints, AreToldAlike, AreUpTo, CopiesEarlier, GoAlike, HaveHistories, IsPointList, IsTrueAt, KnowsAt, OutcomesAlike, StepsAlike, TellsAt, at_place, hi_of, lo_of, map_part, numbered_part, point_of, points_of, read_number}
pub use Rattle.mt_verify.specs.Prelude.{Alloc, Answer, AreTold, Call, Called, Clear, Contents, Copied, CopyOf, Counted, Declared, Empty, Erase, Gap, Got, History, Holder, Insert, IsMap, IsReadable, IsRefused, IsRun, IsRunBy, Item, Kind, Lawful, Limits, Listing, Log, Looked, NoNodes, Opening, Opens, Outcome, Ralloc, Range, Record, Reply, Rgap, Said, Shortage, Step, Store, StorePre, ToldLine, Transcript, What, Write, Wrote, acted, answer, high, holding, is_bad_area, is_exactly, is_held, is_invalid, is_read, listing_text, low, map_at, most_rows, most_trees, numbered_on, reply_text, shown, text_of, trees_of}
pub use Rattle.mt_verify.specs.PrintedOrder.{EndsInTree, EndsWithin, InPrintedOrder, KeepsTo}
pub use Rattle.mt_verify.specs.Shortages.{shared_limits}
pub use Rattle.mt_verify.specs.Stops.{AreCounted, AreStopped, DoNotFall, HasStopped, HasToldCount, HavePassedStops, Passing, SomeMiscounted, is_at}
pub use Rattle.mt_verify.specs.Tellings.{asks_call, count_of_calls, tells_call, tells_read}
pub use Rattle.mt_verify.specs.ToldCalls.{AreCallsOf, AreRecordsTold, HasNoPlace, IsRecordTold, calls_told, filled_from, numbered_of, numbered_on_told, times_numbered}
pub use Rattle.mt_verify.specs.ToldReads.{calls_of_phases_before, is_got, is_wrote, number_for, numbers_behind, own_points, read_by, read_in, reads_count, reads_told}
pub use Rattle.mt_verify.specs.Verifying.{IsOfLog}
pub use Rattle.mt_verify.specs.Wanting.{is_start, wants}
pub use Rattle.mt_verify.specs.Windows.{InBoth, InNumbers}
pub use Rattle.mt_verify.specs.declared.calls.Numbered.{Numbered}
pub use Rattle.mt_verify.specs.declared.counts.Counting.{Counting}
pub use Rattle.mt_verify.specs.declared.looks.ToldRead.{ToldRead}
pub use Rattle.mt_verify.specs.declared.noted.Heard.{Heard}
pub use Rattle.mt_verify.specs.declared.noted.Heard.TheVariants.{Short}
pub use Rattle.mt_verify.specs.declared.noted.Noted.{Noted}
pub use Rattle.mt_verify.specs.declared.stops.Stop.{Stop}
pub use Rattle.mt_verify.specs.declared.tracks.Fate.{Fate}
pub use Rattle.mt_verify.specs.declared.windows.Mark.{Mark}
pub use Rattle.mt_verify.specs.declared.windows.Marks.{Marks}
pub use Rattle.mt_list.proofs.StoresBeside.{outside_hole, store_none_beside, stored_holds}

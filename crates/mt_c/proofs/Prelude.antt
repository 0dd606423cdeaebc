-- What the proofs beside this file take from the toolchain, from the crates below and from this crate's definitions, under one name. Declares nothing.
pub use Rattle.atomic_table.specs.declared.badge.Badge.{Badge}
pub use Rattle.std.proofs.Common.{All, Bool, Err, Global, IfErr, IfOk, IfSome, IsErr, IsOk, IsSome, List, None, Ok, Option, Result, Some, Vec, [], ap, append_assoc, arith, drop, false, get_or, if◌then◌else◌, inl, inr, is_none, length, map, min, nat_le, nat_lt, option_map, refl, rules, set, slice_get, slice_set, subst, suc, sym, take, true, true≢false, unwrap_or, zero, ℕ, ◌*◌, ◌++◌, ◌+◌, ◌-◌, ◌/◌, ◌<◌, ◌==◌, ◌^◌, ◌↔◌, ◌∙◌, ◌∷◌, ◌≡◌, ◌≢◌, ◌≤◌, ◌⊎◌}
pub use Rattle.std.proofs.Crossing.{crosses}
pub use Rattle.mt_base.proofs.Std.{All-pop, All-push, All-same, cases_Bool, drop_more, eq-eqb, eqb-true, le-leb, length-append, length-map, length-map-range_with_len, length-take-le, lt-leb, ltb-true, map-append, mul_assoc, mul_comm, ne_eqb, nil_from_length, pow-succ', set_at, slice_get-get_or, slice_get-map, take_more}
pub use Rattle.std.specs.Arc.{arc_value}
pub use Rattle.std.specs.declared.snapshot.Snapshot.{Snapshot}
pub use Rattle.std_alloc.proofs.SendSync.{lies, quiet}
pub use base.Shift.{Keyless}
pub use denote.Memory.{lone}
pub use denote.Param.Send.{AllSend, IsSend, owning_send, sendable, struct_send, view_send}
pub use denote.Param.SendFields.{declared_send}
pub use denote.RawPtr.{Ptr}
pub use denote.Struct.Owning.{fields, shape, to}
pub use denote.Struct.Struct.{exits_of}
pub use mir.Raw.{raw}
pub use Rattle.mt_rows.specs.Names.{History, IsShort, Limits, Sheet, Store, StorePre, Width, acted, entry_or_zero, limits_of, place_within, sheet_in, with_published}
pub use Rattle.mt_rows.specs.declared.rows.Place.TheVariants.{Root}
pub use Rattle.mt_free.proofs.Books.{new_is_book}
pub use Rattle.mt_free.specs.Book.{Book, live_count}
pub use Rattle.mt_check.proofs.Forms.{form_by}
pub use Rattle.mt_check.specs.Check.{checked}
pub use Rattle.mt_check.specs.declared.faults.Fault.{Fault}
pub use Rattle.mt_image.proofs.FewReached.{few_reached}
pub use Rattle.mt_image.specs.declared.errors.ImageError.{ImageError}
pub use Rattle.mt_bulk.specs.Builds.{IsBuilt, refused_by, too_many}
pub use Rattle.mt_engine.proofs.FreshEngine.{fresh_is_idle}
pub use Rattle.mt_engine.specs.Engine.{IsCarriedOut, IsEnded, IsIdle, is_refusal}
pub use Rattle.mt_engine.proofs.Moments.{tree_if_lawful}
pub use Rattle.mt_engine.proofs.Slots.{tree_map}
pub use Rattle.mt_engine.specs.Batches.{PutSteps, entries_at, put_first, steps_by}
pub use Rattle.mt_rule.specs.declared.views.TurnView.{TurnView}
pub use Rattle.mt_read.specs.Cursors.{IsOnKeptLeaf}
pub use Rattle.mt_read.specs.declared.cursor.KeptLeaf.{KeptLeaf}
pub use Rattle.mt_tree.proofs.Forms.{high_as, live_as, reads_through}
pub use Rattle.mt_tree.specs.Copies.{IsFit, IsLiveCounted, IsReadyToOpen, WasCounted}
pub use Rattle.mt_tree.specs.Looks.{IsCopyLooked, WasFound}
pub use Rattle.mt_tree.specs.Trees.{TriesOnce}
pub use Rattle.mt_tree.specs.declared.shapes.MakeError.{MakeError}
pub use Rattle.mt_tree.proofs.RangeCounts.{few_acted, made_counts}
pub use Rattle.mt_tree.specs.Many.{HasLoadedMany, HasPutMany, HasWalkedMany}
pub use Rattle.mt_tree.specs.Overwrites.{TellsMet, map_met, ranges_met}
pub use Rattle.mt_tree.specs.Reserve.{BreaksReserve, HasReserve, IsCountAfter, IsReserveVerdict, most_after, range_count}
pub use Rattle.mt_verify.proofs.Tellings.{reads_are_points}
pub use Rattle.mt_verify.specs.Points.{AreLeastPoints, IsVerdict}
pub use Rattle.mt_verify.specs.declared.verdicts.Verdict.{Verdict}
pub use Rattle.mt_verify.specs.declared.verdicts.Verdict.TheVariants.{No, Yes}
pub use Rattle.mt_c.specs.Batch.{IsBufferShort, IsNoRun, IsTextOfRun, IsVerified, WritesText}
pub use Rattle.mt_c.specs.Bounded.{IsLeftTo, SharedSteppedTo, SteppedTo, StepsTo, place_to}
pub use Rattle.mt_c.specs.Building.{Builds, IsOfRanges, LacksAnyhow, LacksOf, LacksRanges, why_of}
pub use Rattle.mt_c.specs.Calls.{AnswersCall, AnswersQuery, CalledAlone, CalledRange, CalledWord, EntryTold, IsAsked, IsCallMade, MadeOrSpent, found_status, many_status, no_range, no_told, out_of, range_out, status_of, told_in_c, word_in_c}
unfoldable pub use Rattle.mt_c.specs.Calls.{answered}
pub use Rattle.mt_c.specs.Copying.{Checked, Copied, FitsRows, IsCopyInRows, IsOpenedWith, LacksTree, OpensHandle, no_form, out_form}
pub use Rattle.mt_c.specs.Duplicates.{CopiesTo, HasCopied, HasLooked, HasMade, IsMadeBy, IsMadeIn, IsTriedCopy, IsUnmade, KeepsOff, MadeOrWhy, SharedCopied, when_looked}
pub use Rattle.mt_c.specs.Images.{Imaged, IsOfImage, LacksImage, TellsImage}
pub use Rattle.mt_c.specs.KeptWalks.{IsKeptWalk, last_index}
pub use Rattle.mt_c.specs.Looks.{FoundOrTaken, HasFoundOrTaken, IsFoundIn, MadeImage, PutsBytes, SharedChecked, SharedImaged, SharedOldest, SharedStats, TellsBytes, TellsCalls, TellsForm, TellsMade, TellsStats, when_found}
pub use Rattle.mt_c.specs.Own.{IsOwnTree, OwnTree, own_of}
pub use Rattle.mt_c.specs.Owned.{IsOpenHandle, is_kept, kept_owns, open_count, refusal, unopened}
pub use Rattle.mt_c.specs.Places.{SharedPlaced}
pub use Rattle.mt_c.specs.Prelude.{BulkError, Busy, Call, Cursor, DupError, Field, Form, Given, HasHeight, HasRead, HasWalked, HaveMet, Image, IsBusyOf, IsForNeighbour, IsFormBehind, IsImageOf, IsImagedBehind, IsLawfulOf, IsLookAt, IsNew, IsOldest, IsPassOf, IsReady, IsRun, IsStatsOf, IsWalkOf, Kind, Load, Log, Look, NoMemory, OnlyReads, Order, Parts, Pass, Query, Range, RangeWalk, Read, Reply, Rooted, Shape, Shortage, Sight, Stats, StepsWithin, Takes, TooMany, Transcript, Tree, WalksFrom, WasLeftMarked, WasMade, WasMoved, count_of_calls, cuts_of, first_bad, form_of, found_from, greatest, image_in, index_behind, kind_code, limit_of, live_rows, log_of, map_by, map_seen, misplaced, most_made, most_rows, new_sheet, opened, part_of, pass_in, passes_of, place_behind, find_at, rows_in, steps_made, tree_as, turn_seat, unbounded, up_to, looked_words, LacksCalls, WereMade, IsApplied, IsScanned}
pub use Rattle.mt_c.specs.Preparing.{IsPreCalled, PreCalled, PreMade, pre_status, pre_word}
pub use Rattle.mt_c.specs.Purses.{IsChairAtPurse, IsPurseBusy, RestsInPurse, WasGiven, WasGivenBack, first_in, known_in}
pub use Rattle.mt_c.specs.Receipts.{no_receipts, when_given, when_settled, when_synced, when_tried, when_unchanged}
pub use Rattle.mt_c.specs.Shared.{HasSettled, HasShared, HasSynced, HasTried, IfClosed, IsBadShape, IsFirstUser, IsLeftClosed, IsMeant, IsOfPurse, IsSettledUser, IsShape, IsShut, IsSynced, IsUnchanged, IsWhy, LeftBy, OnKept, OnUser, OpensBeside, OpensOther, SettleResult, SharedAsked, SharedClosed, SharedKept, SharedLearned, SharedLeft, SharedNew, SharedOpened, SharedPaused, SharedSettled, SharedStepped, SharedSynced, SharedTried, SharedWith, StaysAs, WantsNoPlace, WentToSettle, answer_status, calls_in_c, field_status, no_outcome, no_window, outcome_of, rested, settled_status, settled_told, synced_status, tried_status, unchanged_status, went_on, window_of}
pub use Rattle.mt_c.specs.SharedImages.{BuildsIf, BuildsSo, IsFirstOfImage, IsFirstOfRanges, LacksFirstOfImage, LacksFirstOfRanges, LacksMany, OpensSo, OpensUser, SharedBuilds}
pub use Rattle.mt_c.specs.SharedMaps.{IsFirstWith, LacksWith, OpensFirst, OpensWith, SharedOfTree, dup_status, shape_for}
pub use Rattle.mt_c.specs.Spares.{IsSparePass}
pub use Rattle.mt_c.specs.Stats.{HasStats, TellsTree, no_stats}
pub use Rattle.mt_c.specs.Users.{HasLeft, common_of, cuts, known_to, paused, user_tree}
pub use Rattle.mt_c.specs.Walkers.{Answer, Continues, GaveUp, GoesFrom, IsEntry, IsLeftBy, IsOnAt, IsOnNoWalk, IsPaused, IsReadBy, IsStep, IsTried, IsWalkAnswer, KnowsAs, StepsFrom, Took, Tried, TriedOnce, TriedShut, WalkGoesOn, WentOnce, closed_by, halted, knows, new_walk, pausing, shut, stands_at, walk_is_at}
pub use Rattle.mt_c.specs.Walking.{HasSteppedOn, IsStepped, last_index_of, walk_from, walk_index, walk_start}
pub use Rattle.mt_c.specs.declared.building.BuildWhy.{BuildWhy}
pub use Rattle.mt_c.specs.declared.forms.OutForm.{OutForm}
pub use Rattle.mt_c.specs.declared.purse.Common.{Common}
pub use Rattle.mt_c.specs.declared.purse.Purse.{Purse}
pub use Rattle.mt_c.specs.declared.shared_told.CallWindow.{CallWindow}
pub use Rattle.mt_c.specs.declared.shared_told.Outcome.{Outcome}
pub use Rattle.mt_c.specs.declared.stats.OutStats.{OutStats}
pub use Rattle.mt_c.specs.declared.steps.OutWalk.{OutWalk}
pub use Rattle.mt_c.specs.declared.told.OutRange.{OutRange}
pub use Rattle.mt_c.specs.declared.told.ToldCall.{ToldCall}
pub use Rattle.mt_c.specs.declared.user.User.{User}
pub use Rattle.mt_c.specs.declared.user_handle.UserHandle.{UserHandle}
pub use Rattle.mt_c.specs.declared.user_opens.Left.{Left}
pub use Rattle.mt_c.specs.declared.user_opens.Unchanged.{Unchanged}
pub use Rattle.mt_c.specs.declared.walker.Walker.{Walker}
pub use Rattle.mt_c.specs.CallLists.{IsTriedEach, SharedTriedEach, TriedEach, TriesIf, are_meant, call_meant, each_status, told_call, when_each}
pub use Rattle.mt_c.specs.Overwrites.{HasTriedOver, IsTriedOver, SharedTriedOver, StoredOver, StoresOver, TriedOver, met_count, tried_alone}
pub use Rattle.mt_c.specs.SharedKept.{HasTriedKept, IsTriedKept, SharedTriedKept, TriedKept, kept_outcome, kept_status, when_kept}
pub use Rattle.mt_c.specs.SharedMany.{HasWalkedOut, IsLeftAt, PutsMany, SharedEntry, SharedLoadedMany, SharedSteppedMany, cursor_place, most_found, no_times, times_of}

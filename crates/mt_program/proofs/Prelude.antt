-- What the proofs beside this file take from the toolchain, from the crates below and from this crate's definitions, under one name. Declares nothing.
pub use Rattle.std.proofs.Common.{Bool, Err, IfErr, IfSome, IsErrAnd, List, None, Ok, OnOk, Option, Result, Some, [], ap, append-nil, append_assoc, ap₂, arith, drop, drop-cons, false, get_or, if◌then◌else◌, inl, inr, is_ok, is_some, length, length-append, nat_lt, option_map, option_to_list, refl, rules, slice_get, subst, suc, sym, take, take-append-drop, true, true≢false, ℕ, ◌&&◌, ◌++◌, ◌+◌, ◌<◌, ◌==◌, ◌^◌, ◌||◌, ◌∙◌, ◌∷◌, ◌≡◌, ◌≢◌, ◌≤◌, ◌⊎◌}
pub use Rattle.std.proofs.KnownBytes.{Appends-kept, Appends-nil, Appends-trans, Consumes-kept, Consumes-nil, Consumes-trans}
pub use Rattle.mt_base.proofs.Std.{common_steps, drop-length, list_any, take-suc, take_rest}
pub use Rattle.std.specs.Io.KnownBytes.{Appends, Consumes, IsAtEnd, Keeps}
pub use Rattle.mt_bulk.specs.Builds.{refused_by}
unfoldable pub use Rattle.mt_bulk.specs.Builds.{refusal}
pub use Rattle.mt_bulk.specs.Bulk.{rows_in}
pub use Rattle.mt_bulk.specs.Items.{is_misplaced, misplaced, misplaced_from}
pub use Rattle.mt_log.specs.Names.{Declared, History, Kind, Range, declared_by, listings_of, most_rows, phase_after, tree_declared_by, trees_from}
pub use Rattle.mt_log.specs.declared.lines.Item.{Item}
pub use Rattle.mt_log.specs.declared.lines.Item.TheVariants.{Ask, Check, Dup, Join, Lane, Scan, Tree, Write}
pub use Rattle.mt_log.specs.declared.lines.Line.{Line}
pub use Rattle.mt_told.proofs.Laws.{few_ranges}
pub use Rattle.mt_told.specs.Listings.{IsRefusedListing}
pub use Rattle.mt_verify.proofs.Tellings.{reads_are_points}
pub use Rattle.mt_verify.specs.Points.{AreLeastPoints}
pub use Rattle.mt_program.specs.Causes.{Ends, EndsMaking, EndsPrint, EndsReading, Fails, FailsOn, FailsToRead, HasEnded, RefusesInput, Streams, failure_of_listing}
pub use Rattle.mt_program.specs.Command.{input_limit, longest, reads}
pub use Rattle.mt_program.specs.Ending.{ReadsNoFurther, ReadsTooMany, ReadsWithin, status_of}
pub use Rattle.mt_program.specs.Headline.{IsBuiltImage, IsOutput, IsVerifiedText, Prints, WritesOutput, WritesPart, verified_text}
pub use Rattle.mt_program.specs.Input.{ReadFails, ReadsAll}
pub use Rattle.mt_program.specs.Parts.{is_cut, parts_at_cut, parts_from, with_byte_before}
pub use Rattle.mt_program.specs.Prelude.{Bulk, Command, Ids, Image, ImageError, IsBulkImage, IsIdsText, IsImageOfRun, IsInForm, IsRun, IsTrialText, Listing, ListingError, Log, Make, Replay, Rose, Show, TookTurns, Transcript, Trial, Verify, count_of_calls, image_in, listing_text, log_of, reads_told, text_of, trees_of}
pub use Rattle.mt_program.specs.Turns.{HasTurned, HaveTurned, IsBuiltBy, IsTurnedLog}
pub use Rattle.mt_program.specs.Verdicts.{AreBytesRefused, AreBytesTaken, IsDue, IsToldOf, IsUnbuilt, IsUnbuiltAt, IsUnverified, RefusesBytes, TakesBytes}
pub use Rattle.mt_program.specs.declared.failures.Failure.{Failure}
pub use Rattle.mt_program.specs.declared.streams.ReadError.{ReadError}

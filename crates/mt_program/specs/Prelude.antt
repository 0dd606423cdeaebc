-- What the definitions beside this file take from the toolchain and from the crates below, under one name. Declares nothing.
pub use Rattle.mt_image.specs.Reading.{image_in}
pub use Rattle.mt_image.specs.Texts.{error_text}
pub use Rattle.mt_image.specs.declared.errors.ImageError.{ImageError}
pub use Rattle.mt_bulk.specs.Builds.{TookTurns, refusal}
pub use Rattle.mt_log.specs.Names.{IsRun, TellsRun, fault_at, listing_text, log_of, text_of, trees_of, why_text}
pub use Rattle.mt_log.specs.declared.faults.LogError.{LogError}
pub use Rattle.mt_log.specs.declared.lines.Log.{Log}
pub use Rattle.mt_log.specs.declared.transcripts.Listing.{Listing}
pub use Rattle.mt_log.specs.declared.transcripts.Transcript.{Transcript}
pub use Rattle.mt_cli.specs.declared.commands.Command.{Command}
pub use Rattle.mt_cli.specs.declared.commands.Command.TheVariants.{Bulk, Ids, Image, Make, Replay, Show, Trial, Verify}
pub use Rattle.mt_told.specs.Listings.{IsBadAt, IsInForm}
pub use Rattle.mt_told.specs.declared.errors.ListingError.{ListingError}
pub use Rattle.mt_verify.specs.Tellings.{count_of_calls, reads_told}
pub use Rattle.mt_io.specs.Faults.{Rose}
pub use Rattle.mt_replay.specs.Images.{IsImageOfRun}
pub use Rattle.mt_replay.specs.Turns.{AllTurned}
pub use Rattle.mt_commands.specs.Texts.{IsBulkImage, IsImageListing, IsMadeText, IsTrialText, IsTurnedTrial}
pub use Rattle.mt_commands.specs.Turns.{IsIdsText}

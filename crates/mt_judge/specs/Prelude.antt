-- What the definitions beside this file take from the toolchain and from the crates below, under one name. Declares nothing.
pub use Rattle.mt_log.specs.Names.{log_of, most_rows}
pub use Rattle.mt_log.specs.declared.lines.Log.{Log}
pub use Rattle.mt_told.specs.Telling.{IsToldBy, TellsNone}
pub use Rattle.mt_told.specs.declared.told.ToldLine.{ToldLine}
pub use Rattle.mt_told.specs.declared.told.What.{What}
pub use Rattle.mt_told.specs.declared.told.What.TheVariants.{Copied, Got, Lawful, Wrote}
pub use Rattle.mt_verify.specs.Points.{IsVerdict}
pub use Rattle.mt_verify.specs.PrintedOrder.{InPrintedOrder}
pub use Rattle.mt_verify.specs.ToldReads.{is_got, is_wrote}
pub use Rattle.mt_verify.specs.declared.verdicts.Verdict.TheVariants.{No, Yes}

pub mod Agreements
pub mod Building
pub mod Digits
pub mod Limits
pub mod NoCommands
pub mod Positionals
pub mod Readings
pub mod Refusals
pub mod Replays
pub mod Shapes
pub mod Sorts
pub mod Walks
mod Prelude

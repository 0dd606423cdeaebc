pub mod Counts
pub mod CutLaws
pub mod EditSteps
pub mod ExactSlot
pub mod Holes
pub mod Joined
pub mod Pushes
pub mod Slots
pub mod Stored
mod Prelude

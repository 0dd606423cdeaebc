pub mod Complete
pub mod Lists
pub mod Longest
pub mod OneRow
pub mod Passes
pub mod Placed
pub mod Sound
pub mod Loaded
pub mod Slots
pub mod Unused
pub mod Entering
pub mod Counts
pub mod Onward
pub mod Descending
pub mod Children
pub mod Whole
pub mod Forms
mod Prelude

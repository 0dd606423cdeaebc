pub mod Moments
pub mod Before
pub mod Beside
pub mod Crossing
pub mod Descending
pub mod Finding
pub mod GivenUp
pub mod Keeping
pub mod Leaves
pub mod LeafLaws
pub mod Leaving
pub mod LastAnswers
pub mod Preceding
pub mod BatchLaws
pub mod Batching
pub mod MapAnswers
pub mod Reading
pub mod NextAnswers
pub mod SlotAnswers
mod Spots
pub mod Sought
pub mod Silent
pub mod Standing
pub mod Stepping
pub mod Upward
pub mod Windows
mod Prelude

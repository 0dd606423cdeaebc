pub mod Alike
pub mod Carrying
pub mod Ends
pub mod Fitting
pub mod Following
pub mod Forming
pub mod Holding
pub mod Parts
pub mod Reaching
pub mod Slots
pub mod Standing
pub mod Starting
pub mod Staying
pub mod Turning
pub mod Writing
mod Prelude

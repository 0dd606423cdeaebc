pub mod Allocation
pub mod Draws
pub mod Runs
pub mod Window
pub mod Prelude

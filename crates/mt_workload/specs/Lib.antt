pub mod Counting
pub mod Draws
pub mod Made
pub mod Summary
pub mod Prelude

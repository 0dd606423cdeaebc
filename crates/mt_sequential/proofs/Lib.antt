pub mod CalledWithin
pub mod PlayedLines
pub mod Removed
pub mod Scanning
mod Prelude

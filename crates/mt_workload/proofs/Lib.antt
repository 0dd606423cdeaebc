pub mod Counted
pub mod Dealing
pub mod Drawn
pub mod MadeLogs
pub mod Numbered
mod Prelude

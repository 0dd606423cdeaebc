pub mod Loops
pub mod Tables
pub mod Walks
mod Prelude

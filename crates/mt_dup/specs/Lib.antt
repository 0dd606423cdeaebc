pub mod Copy
pub mod Filling
pub mod Pairs
pub mod Walks
pub mod Prelude

pub mod Columns
pub mod Rows
pub mod Sizes
pub mod Spans
pub mod Prelude
pub mod Names

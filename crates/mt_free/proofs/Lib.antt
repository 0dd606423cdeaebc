pub mod Books
pub mod Rows
pub mod StillOut
mod Prelude

pub mod Check
pub mod Examples
pub mod Reads
pub mod RowTests
pub mod Walks
pub mod Prelude

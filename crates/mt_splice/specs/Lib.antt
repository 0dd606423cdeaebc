pub mod Fewest
pub mod Kept
pub mod Splice
pub mod steps
pub mod Prelude

pub mod Only
pub mod Texts
pub mod Turns
pub mod Walks
pub mod Prelude

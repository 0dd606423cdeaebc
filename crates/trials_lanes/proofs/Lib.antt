pub mod Closed
mod Prelude

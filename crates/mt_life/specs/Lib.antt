pub mod Holding
pub mod Known
pub mod Moments
mod Prelude

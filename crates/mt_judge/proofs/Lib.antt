pub mod Beginnings
pub mod Firsts
pub mod Judgments
pub mod Pairs
mod Prelude

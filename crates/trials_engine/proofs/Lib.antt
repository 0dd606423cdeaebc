pub mod CheckedTrees
mod Prelude

pub mod Batches
pub mod Middles
pub mod Handles
pub mod Paths
pub mod Walks
pub mod Prelude

pub mod Builds
pub mod Bulk
pub mod Chunks
pub mod Cuts
pub mod Examples
pub mod Items
pub mod Texts
pub mod Prelude

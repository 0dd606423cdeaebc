pub mod Cleared
pub mod Finishing
pub mod Going
pub mod Scanning
pub mod Telling
pub mod Working
mod Prelude

pub mod Alone
pub mod Answered
pub mod Asking
pub mod Calls
pub mod Doing
pub mod Fronts
pub mod Going
pub mod Laning
pub mod LeftLines
pub mod Linked
pub mod Naming
pub mod Scanning
pub mod Swapping
mod Prelude

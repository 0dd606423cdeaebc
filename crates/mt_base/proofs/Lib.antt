pub mod AboveTop
pub mod AreasWant
pub mod CallsKeepOrder
pub mod FirstMet
pub mod FreeAreas
pub mod Goings
pub mod Lists
pub mod OneRange
pub mod PlainReplies
pub mod ReadingAfterStore
pub mod SearchesWhole
pub mod SharedCalls
pub mod Shortages
pub mod StoredOrder
pub mod WidthBounds
mod Prelude
pub mod Lemmas
pub mod Std

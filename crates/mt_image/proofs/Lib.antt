pub mod FewReached
pub mod OneImage
pub mod Places
pub mod WalkOrder
pub mod Numbers
pub mod ReadBack
pub mod Rewritten
pub mod MoreNumbers
pub mod StrayLoop
pub mod Sizes
pub mod Judged
pub mod Assembled
pub mod Written
mod Prelude

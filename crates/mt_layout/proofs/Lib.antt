pub mod Gapless
pub mod GreatestGap
pub mod NameLaws
pub mod OwnColumns
pub mod Places
pub mod ReadBack
pub mod Reading
pub mod RowSizes
pub mod RowWords
pub mod SpanLists
pub mod Writing
mod Prelude
pub mod Lemmas

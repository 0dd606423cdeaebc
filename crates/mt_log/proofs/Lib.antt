pub mod Digits
pub mod FirstFields
pub mod Following
pub mod Indexed
pub mod LogsRead
pub mod Padding
pub mod Parts
pub mod Pieces
pub mod PlacesSet
pub mod PrintedItems
pub mod PrintedLines
pub mod PrintedNumbers
pub mod PrintedTrees
pub mod Readable
pub mod RoundTrip
pub mod Soundness
pub mod Tails
mod Prelude

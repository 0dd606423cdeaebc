pub mod Allocations
pub mod Answering
pub mod AtWork
mod Batching
pub mod Calling
pub mod Copying
mod Counting
pub mod Ending
pub mod Forms
pub mod Lending
pub mod Lists
pub mod Looking
pub mod NoShortage
pub mod NoneWritten
pub mod Opening
pub mod Reading
pub mod Settling
pub mod Showing
mod Trying
mod Overwriting
mod Prelude
mod Keeping
pub mod RangeCounts
pub mod Reserving
pub mod RowsFor

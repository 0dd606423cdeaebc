pub mod Filling
pub mod Going
pub mod MovedItems
pub mod MovedTree
pub mod Names
pub mod NewNumbers
pub mod NewTables
pub mod RowCopies
pub mod TreeNames
pub mod WholeCopies
pub mod WrittenRows
mod Prelude

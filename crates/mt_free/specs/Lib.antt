pub mod Book
pub mod RowBook

pub mod Commands
pub mod Grammar
pub mod Numbers

pub mod Answers
pub mod Faults
pub mod Judged
pub mod Orders
pub mod Printed
pub mod Words
pub mod Prelude

pub mod Bytes
pub mod Images
pub mod Orders
pub mod Reading
pub mod Texts
pub mod Prelude

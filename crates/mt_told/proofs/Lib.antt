pub mod Answered
pub mod Bad
pub mod Compared
pub mod FirstLines
pub mod Laws
pub mod LineByLine
pub mod Lines
pub mod OneWay
pub mod Outcomes
pub mod RangeLines
pub mod Scanned
pub mod Spelled
pub mod Stepped
pub mod Versions
pub mod Words
mod Prelude

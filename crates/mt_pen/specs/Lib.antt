pub mod Scans
pub mod Sheets
pub mod Writers
pub mod Works
pub mod Prelude

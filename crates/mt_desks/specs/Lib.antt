pub mod Dealing
pub mod Desks
pub mod Passing
pub mod Phases
pub mod Scans
pub mod Turns
pub mod Walks
pub mod Prelude

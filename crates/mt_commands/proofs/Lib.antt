pub mod Building
pub mod Drawing
pub mod FewTurns
pub mod FirstNumber
pub mod Lanes
pub mod OnlyCalls
pub mod Running
pub mod Turning
pub mod Walking
mod Prelude

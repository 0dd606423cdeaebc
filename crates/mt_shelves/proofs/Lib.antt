pub mod LongestHole
pub mod MapParts
pub mod LyingBeside
pub mod Answering
pub mod Editing
pub mod ErasingThere
pub mod ShelvesKept
pub mod HolesOnShelves
mod Prelude

pub mod Asked
pub mod Drawn
pub mod Marks
pub mod Texts
pub mod Trees
pub mod Prelude

mod Counting
mod Telling
mod Prelude

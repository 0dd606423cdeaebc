pub mod EraseAtPlace
pub mod HoldingAtPlace
pub mod HolesSought
pub mod MapsKept
pub mod QueriesAtPlaces
pub mod Replaced
pub mod RisingRanges
pub mod StoreAtPlaces
pub mod StoresBeside
pub mod TwoMaps
mod Prelude

mod Taking
mod Prelude

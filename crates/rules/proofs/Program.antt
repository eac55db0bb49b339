-- The map program's input and text.
pub mod Decimals
pub mod Lines
pub mod MapInput

-- The flat answers and calls of the C interface.
pub mod Flat

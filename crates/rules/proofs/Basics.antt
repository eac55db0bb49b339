-- Arithmetic and tests that several laws lean on.
pub mod Results
pub mod Tests
pub mod Facts
pub mod Any
pub mod Sums
pub mod Digits
pub mod Ids

-- What the functions of this crate mean beyond the rules: the rows as they stand in the code, one entry of a walk, and a pass over a string.
pub mod Rows
pub mod Limits
pub mod Ready
pub mod Counts
pub mod Decode
pub mod Walks
pub mod Locate
pub mod Marks
pub mod Wide
pub mod Find
pub mod Reading
pub mod Cover
pub mod Text
pub mod Lent

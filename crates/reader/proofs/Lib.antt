-- The reader on accepted strings.
pub mod Walk

-- The table of IDs and the numbers of their fields.
pub mod Rows
pub mod Columns
pub mod Numbers

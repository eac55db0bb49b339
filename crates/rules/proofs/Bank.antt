-- The layout of a bank, a field of it, and its byte calls.
pub mod Places
pub mod FieldWritten
pub mod Bytes
pub mod Gaps

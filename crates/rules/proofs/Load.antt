-- Entries, walks and the load.
pub mod Checks
pub mod Folds
pub mod Walks
pub mod Loads
pub mod Fills
pub mod EntryHeads
pub mod EntryBytes
pub mod LoadNumber
pub mod Limits
pub mod ReaderWalk
pub mod Rests
pub mod Resumes
pub mod Pieces
pub mod TakenUp

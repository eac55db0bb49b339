-- The two machines on every list of calls.
pub mod Machines
pub mod Relation
pub mod Allowed
pub mod Calls
pub mod Lists
pub mod Fresh
pub mod Told

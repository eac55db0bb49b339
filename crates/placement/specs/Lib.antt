-- What the functions of this crate mean beyond the rules.
pub mod Address
pub mod Owner

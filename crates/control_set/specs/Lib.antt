-- What the private functions of this crate mean, in terms of the rules.
pub mod Field
pub mod Lanes
pub mod Values
pub mod Store
pub mod Gate
pub mod Asked
pub mod Chosen
pub mod Served
pub mod Placed
pub mod Plan

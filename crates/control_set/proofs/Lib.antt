-- Laws that the functions' proofs cite.
pub mod Masks
pub mod LaneMasks
pub mod Plans
pub mod Copies
pub mod CopiedLanes
pub mod Spots
pub mod Signs
pub mod Values
pub mod Outcomes
pub mod FieldCalls
pub mod Stores
pub mod ByteCalls
pub mod JudgedFields
pub mod Performed
pub mod Applies

-- Where fields lie, and whose a bit is.
pub mod Lanes
pub mod AcceptedMap
pub mod Fields
pub mod CoveredBytes
pub mod LanesOfByte
pub mod Owners
pub mod OwnerAt
pub mod CoverIndex
pub mod Addresses
pub mod PlaceOwner
pub mod PlaceCalls
pub mod AddressOwner

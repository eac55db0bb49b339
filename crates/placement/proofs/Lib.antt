-- Place and owner agree; then the laws that the functions' proofs cite.
pub mod Agree
pub mod Small
pub mod Addressing
pub mod Placing
pub mod Owns

-- The theorems about the rules: Demands first, then laws, a folder for what they are about.
pub mod Demands
pub mod Basics
pub mod Table
pub mod Load
pub mod Place
pub mod Refusals
pub mod Bank
pub mod Apply
pub mod Lists
pub mod Footprints
pub mod Program
pub mod Worked

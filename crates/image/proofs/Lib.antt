pub mod Lists
pub mod Back
pub mod Views
pub mod Lookups
pub mod Shift
pub mod Loads
pub mod Machine

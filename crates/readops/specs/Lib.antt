pub mod Holds
pub mod Constants
pub mod Lookups
pub mod Calls

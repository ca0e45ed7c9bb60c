pub mod Errors
pub mod Says
pub mod Constants
pub mod Laws

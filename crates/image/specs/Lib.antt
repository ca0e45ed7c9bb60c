pub mod Errors
pub mod View
pub mod Fills
pub mod Load
pub mod Laws
pub mod Near

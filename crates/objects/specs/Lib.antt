pub mod View
pub mod Puts
pub mod Globals

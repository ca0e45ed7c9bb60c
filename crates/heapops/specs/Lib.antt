pub mod Turns
pub mod Follows
pub mod Makes
pub mod Stores

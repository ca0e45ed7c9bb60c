pub mod Calls
pub mod Givens
pub mod Inside
pub mod Lent
pub mod Performs
pub mod Refusals
pub mod Stores

pub mod Distinct
pub mod Reaches
pub mod Values
pub mod Names
pub mod Calls
pub mod Leaps
pub mod Elements

pub mod Bounds
pub mod Runs
pub mod Speed
pub mod Advances

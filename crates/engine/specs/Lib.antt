pub mod Clears
pub mod Loads
pub mod Registers
pub mod Runs
pub mod Demand3
pub mod Changes

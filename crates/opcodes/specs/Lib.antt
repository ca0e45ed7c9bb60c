pub mod Trials
pub mod Rows

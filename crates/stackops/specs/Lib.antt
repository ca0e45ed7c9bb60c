pub mod Numbers
pub mod Values
pub mod Control
pub mod Operators

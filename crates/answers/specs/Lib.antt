pub mod Numbers
pub mod Flat
pub mod Written

pub mod Stays
pub mod Quickly
pub mod Numbers
pub mod Senses

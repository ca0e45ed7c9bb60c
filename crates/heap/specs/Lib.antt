pub mod Layout
pub mod View
pub mod Rows
pub mod Tables
pub mod Laws
pub mod Finds

pub mod Keys
pub mod Arrays
pub mod Sets

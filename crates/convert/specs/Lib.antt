pub mod Truth
pub mod Shows
pub mod Keys

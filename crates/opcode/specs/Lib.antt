pub mod Programs
pub mod Unknown

pub mod Prepared
pub mod Cleared

pub mod History
pub mod Law
pub mod Unaltered
pub mod Some

pub mod Laid
pub mod Back
pub mod Again

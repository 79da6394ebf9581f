pub mod Words
pub mod Keys
pub mod Lines
pub mod Sessions
pub mod Tallies

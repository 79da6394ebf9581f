pub mod Rotations
pub mod Rounds

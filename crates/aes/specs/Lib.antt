pub mod Field
pub mod Sbox
pub mod Schedule
pub mod Rounds
pub mod View

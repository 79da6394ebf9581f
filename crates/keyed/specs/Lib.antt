pub mod Derivation
pub mod Keystream
pub mod Parts
pub mod Strings
pub mod Xcbc
pub mod Told
pub mod Compared

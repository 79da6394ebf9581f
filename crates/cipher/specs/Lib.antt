pub mod Cipher
pub mod Workspace

pub mod Keyed
pub mod Verdicts

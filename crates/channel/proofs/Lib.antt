pub mod Checks
mod Outcomes
mod Packed

pub mod Outcomes
pub mod Simulation
pub mod Passed

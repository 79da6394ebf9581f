mod Agrees
mod Blocks
mod Joins
pub mod Keys
mod Schedules
pub mod Stream

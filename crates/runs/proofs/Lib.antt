mod Model
mod Base
mod Flow
mod Places
mod Facts
mod Moves
mod Steps
mod View
pub mod Whole
mod Tests
mod Samples
pub mod Fields
pub mod Opening
pub mod Passing

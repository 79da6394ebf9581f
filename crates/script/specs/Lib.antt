pub mod Views
pub mod Parts
pub mod Calls
pub mod Forms
pub mod Lines
pub mod Names
pub mod Expected

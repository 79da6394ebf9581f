pub mod Lines
pub mod Expected

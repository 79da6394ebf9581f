pub mod Sessions
pub mod Both

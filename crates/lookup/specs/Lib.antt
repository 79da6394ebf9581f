pub mod Replies
pub mod Chip
pub mod Bench
pub mod Either

-- The root of what the walker promises.
pub mod Told
pub mod Steps
pub mod Walks
pub mod Moves
pub mod Rows

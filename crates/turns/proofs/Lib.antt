-- The root of what the proofs of turns share.
pub mod Steps
pub mod Ways
pub mod Words
pub mod Between
pub mod One
pub mod Settled

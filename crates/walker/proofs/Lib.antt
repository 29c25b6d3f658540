-- The root of the proofs.
pub mod Told
pub mod Clauses
pub mod Settled
pub mod Promised
pub mod One
pub mod Steps
pub mod Begins
pub mod Walks
pub mod Editions

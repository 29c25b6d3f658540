-- The root of the proofs.
pub mod Told
pub mod Settled
pub mod Promised
pub mod One
pub mod Cutting
pub mod Inside
pub mod Directory
pub mod Callers
pub mod Finds
pub mod Editions
pub mod Ways

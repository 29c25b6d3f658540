-- The root of the proofs.
pub mod Searching
pub mod Standing
pub mod Places
pub mod Told
pub mod Judges
pub mod Settled
pub mod Promised
pub mod One
pub mod Opening
pub mod Ways
pub mod Walking

-- The root of the proofs.
pub mod Comparing
pub mod Settled
pub mod Promised
pub mod Alike
pub mod Packing
pub mod Meaning
pub mod Ways

-- The root of the proofs.
pub mod Settled

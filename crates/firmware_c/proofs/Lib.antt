-- The root of the proofs.
pub mod Doors
pub mod Settled

-- The root of the proofs: when contents fit, and that every public promise settles its answer.
pub mod Asking
pub mod Fitting
pub mod Settled

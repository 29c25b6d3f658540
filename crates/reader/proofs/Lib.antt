-- The root of the proofs.
pub mod Settled
pub mod Promised
pub mod One
pub mod Copies
pub mod Laying
pub mod Turns
pub mod Told
pub mod Area
pub mod Answered
pub mod ByEdition
pub mod Ways

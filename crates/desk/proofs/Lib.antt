-- The root of the proofs.
pub mod Holding
pub mod Changes
pub mod Counted
pub mod Notice
pub mod Told
pub mod Settles
pub mod Editions
pub mod History
pub mod Words
pub mod Settled
pub mod Promised
pub mod One
pub mod Ways

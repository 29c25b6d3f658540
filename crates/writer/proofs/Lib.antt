-- The root of the proofs.
pub mod Told
pub mod Contents
pub mod Entries
pub mod Calls
pub mod Laying
pub mod Pairs
pub mod Settled
pub mod Promised
pub mod One
pub mod Legal
pub mod Reasons
pub mod Judging
pub mod RoundTrips
pub mod Empty

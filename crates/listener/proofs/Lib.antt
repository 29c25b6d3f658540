-- The root of the proofs: what the arithmetic wants, that every public promise settles its outcome, and demand 3 over
-- the promises.
pub mod Bounds
pub mod Settled
pub mod Promised
pub mod One
pub mod Runs
pub mod Told
pub mod Hears
pub mod Answers
pub mod Going
pub mod Headers

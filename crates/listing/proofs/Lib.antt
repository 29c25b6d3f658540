-- The root of the proofs.
pub mod Pieces
pub mod Keys
pub mod Tabled
pub mod Rows
pub mod Whole
pub mod Settled
pub mod Promised
pub mod One
pub mod Lines
pub mod Characters
pub mod Values
pub mod Longest
pub mod First
pub mod Plain
pub mod Numerals

-- The root of the theorems over several crates.
pub mod Demand1
pub mod Demand2
pub mod Demand3
pub mod Editions
pub mod Ways
pub mod Rows

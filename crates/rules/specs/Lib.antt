-- The root of the rules: what messages are and what counts in them, the machine that judges octets, and what is
-- said of the two.
pub mod Tests
pub mod Octets
pub mod Contents
pub mod Charge
pub mod Terminal
pub mod Extension
pub mod Table
pub mod Message
pub mod Counting
pub mod Roles
pub mod Endings
pub mod Unlisted
pub mod ContentJudge
pub mod OctetRows
pub mod Codes
pub mod Editions
pub mod Refusals
pub mod Machine
pub mod Judge
pub mod Language
pub mod Demand3
pub mod Unique
pub mod Rows
pub mod Pairwise
pub mod First
pub mod Laying

-- The root of what is promised of the writer.
pub mod Told
pub mod Writing
pub mod Judging
pub mod Laying
pub mod Reasons
pub mod RoundTrips
pub mod Rows

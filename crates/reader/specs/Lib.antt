-- The root of what is promised of reading.
pub mod Told
pub mod Read
pub mod Reads

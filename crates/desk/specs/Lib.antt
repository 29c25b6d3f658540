-- The root of what the desk promises.
pub mod Told
pub mod References
pub mod Settle
pub mod Holding
pub mod Settles
pub mod History
pub mod Rows

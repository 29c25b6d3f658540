-- The root of what is promised of whole messages.
pub mod Told
pub mod Verdict
pub mod Parts
pub mod Judges
pub mod Parameters
pub mod Places
pub mod Walk

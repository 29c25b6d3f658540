-- The root of what the listener promises.
pub mod Told
pub mod Heard
pub mod Hears
pub mod Answers

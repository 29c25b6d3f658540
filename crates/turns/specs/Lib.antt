-- The root of what is promised of parameters in turn.
pub mod Turns

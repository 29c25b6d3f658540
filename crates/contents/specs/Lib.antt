-- The root of what is said of contents in types of this crate.
pub mod Asked

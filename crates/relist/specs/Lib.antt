-- The root of what is promised of listings that come back.
pub mod First
pub mod Back
pub mod Relist
pub mod Sentences
pub mod Reading
pub mod Rows

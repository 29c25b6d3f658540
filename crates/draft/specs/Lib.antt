-- The root of what is promised of drafts.
pub mod Meaning
pub mod Draft
pub mod Packing
pub mod Same

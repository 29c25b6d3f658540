-- The root of what the caption finder promises.
pub mod Told
pub mod Lines
pub mod Caption
pub mod Directory
pub mod Finds
pub mod Rows

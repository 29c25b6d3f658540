-- The root of what the exports promise.
pub mod Sizes
pub mod Record
pub mod Word
pub mod DeskRecord
pub mod DraftRecord
pub mod PartRecord
pub mod Exports
pub mod RecordHears
pub mod RecordReads
pub mod RecordSettles
pub mod RecordParts

pub mod CursorViews
pub mod Cursor
pub mod Reads
pub mod PartViews

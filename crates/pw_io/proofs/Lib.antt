pub mod KeptFiles
pub mod FileMaps
pub mod LastEntries

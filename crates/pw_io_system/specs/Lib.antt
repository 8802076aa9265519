-- Faults: the count of faults, by the fault that is answered.
-- Streams: what the streams pass on.
-- Sinks: what a sink keeps back.
-- Folders: what the calls of a folder answer, and what opening a file comes to.
-- Entries: the names of a folder's files, by what is told of its entries.
pub mod Faults
pub mod Streams
pub mod Sinks
pub mod Folders
pub mod Entries

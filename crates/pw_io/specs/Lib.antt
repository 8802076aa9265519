-- Faults: the counts of faults and the causes of answers.
-- Streams: what a source and a sink do.
-- Files: what a store holds and does.
-- Memory, MemoryStore: what the objects in memory show.
-- Shelf: the files of a map in memory.
-- Codes: how the values that the stores show are stored.
pub mod Faults
pub mod Streams
pub mod Files
pub mod Memory
pub mod MemoryStore
pub mod Shelf
pub mod Codes

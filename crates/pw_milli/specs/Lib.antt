-- Words: the words of the routines.
-- Library: the list of the routines.
-- Calls: what a call of a routine does.
pub mod Words
pub mod Library
pub mod Calls

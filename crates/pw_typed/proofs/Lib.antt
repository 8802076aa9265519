pub mod NodeLemmas
pub mod Rows

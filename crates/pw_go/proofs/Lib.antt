pub mod RunLemmas
pub mod GoLemmas

mod LabelLemmas
pub mod Listing
pub mod Turning

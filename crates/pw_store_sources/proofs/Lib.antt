pub mod BytesLemmas
pub mod ComeLemmas
pub mod HeaderLemmas
pub mod OutputLemmas
pub mod Picking

pub mod PlaceLemmas
pub mod LinkedLemmas
pub mod RecordLemmas
pub mod StateLemmas
pub mod SwitchLemmas

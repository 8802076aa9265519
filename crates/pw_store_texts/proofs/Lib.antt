pub mod BytesLemmas
pub mod CrowdLemmas
pub mod EndingLemmas
pub mod NamedLemmas
pub mod PlaceLemmas
pub mod PlainLemmas
pub mod SeenLemmas

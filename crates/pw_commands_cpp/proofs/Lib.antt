pub mod CppLemmas
pub mod TellingLemmas

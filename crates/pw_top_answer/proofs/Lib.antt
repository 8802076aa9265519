pub mod PrintLemmas
pub mod TellLemmas

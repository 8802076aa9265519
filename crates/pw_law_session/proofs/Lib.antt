pub mod NamingLemmas
pub mod FullLemmas
pub mod BenchLemmas
pub mod WholeLemmas
pub mod HistoryLemmas
pub mod SeenLemmas

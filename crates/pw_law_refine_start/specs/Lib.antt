pub mod Start
pub mod Named

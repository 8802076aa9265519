-- The definitions of pw_phase_one that crates above name.
pub use Rattle.pw_phase_one.specs.FirstPhase

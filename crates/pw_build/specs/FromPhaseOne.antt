-- The definitions of the first phase that crates above name.
pub use Rattle.pw_law_main.specs.FromPhaseOne.FirstPhase

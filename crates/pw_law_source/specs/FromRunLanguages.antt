-- The definitions of pw_run_languages that crates above name.
pub use Rattle.pw_run_languages.specs.Commands
pub use Rattle.pw_run_languages.specs.FlowRun
pub use Rattle.pw_run_languages.specs.Memory
pub use Rattle.pw_run_languages.specs.Programs
pub use Rattle.pw_run_languages.specs.Values

-- The definitions of pw_run_languages that crates above name.
pub use Rattle.pw_run_languages.specs.Acts
pub use Rattle.pw_run_languages.specs.Addresses
pub use Rattle.pw_run_languages.specs.LineRun
pub use Rattle.pw_run_languages.specs.Links
pub use Rattle.pw_run_languages.specs.PlacedRun
pub use Rattle.pw_run_languages.specs.Programs
pub use Rattle.pw_run_languages.specs.Serving
pub use Rattle.pw_run_languages.specs.Standing
pub use Rattle.pw_run_languages.specs.Traces
pub use Rattle.pw_run_languages.specs.Values

-- The definitions of pw_build_files that crates above name.
pub use Rattle.pw_build_files.specs.Building
pub use Rattle.pw_build_files.specs.Driving
pub use Rattle.pw_build_files.specs.Full
pub use Rattle.pw_build_files.specs.Genuine
pub use Rattle.pw_build_files.specs.Outcomes
pub use Rattle.pw_build_files.specs.Seen

-- The definitions of pw_session that crates above name.
pub use Rattle.pw_session.specs.Bench
pub use Rattle.pw_session.specs.Changes
pub use Rattle.pw_session.specs.FromBuild
pub use Rattle.pw_session.specs.FromBuildFiles
pub use Rattle.pw_session.specs.Outcomes
pub use Rattle.pw_session.specs.Removals

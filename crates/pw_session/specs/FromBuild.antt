-- The definitions of pw_build that crates above name.
pub use Rattle.pw_build_files.specs.FromBuild.BuildFault
pub use Rattle.pw_build_files.specs.FromBuild.Phases

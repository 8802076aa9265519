-- The definitions of pw_build that crates above name.
pub use Rattle.pw_build.specs.Builds
pub use Rattle.pw_build.specs.FromPhaseOne.FirstPhase
pub use Rattle.pw_build.specs.Full
pub use Rattle.pw_build.specs.Phases
pub use Rattle.pw_build.specs.Stores
pub use Rattle.pw_build.specs.declared.fault.BuildFault
pub use Rattle.pw_build.specs.declared.fault.Unbuilt

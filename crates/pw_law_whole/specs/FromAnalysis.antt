-- The definitions of pw_law_analysis that crates above name.
pub use Rattle.pw_law_analysis.specs.ImageTraffic
pub use Rattle.pw_law_analysis.specs.ImageRegisters
pub use Rattle.pw_law_analysis.specs.ImagePlaces

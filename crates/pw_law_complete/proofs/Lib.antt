mod Builds
mod Parts
mod Phases

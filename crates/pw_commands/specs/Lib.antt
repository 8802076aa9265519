pub mod MachineRun
pub mod Needed
pub mod Linking
pub mod Running
pub mod Outcome
pub mod Showing
pub mod Analysing
pub mod Others

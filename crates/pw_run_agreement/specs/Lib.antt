pub mod MachineStages
pub mod Agreement

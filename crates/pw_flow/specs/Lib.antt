pub mod FlowGraph
pub mod Addressed
pub mod Uses
pub mod Outline
pub mod ValidFlow
pub mod FrameRooms

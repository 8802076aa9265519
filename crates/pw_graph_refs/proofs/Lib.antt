pub mod Flowing
pub mod Edges
pub mod Marks
pub mod OwnFlows

pub mod CallGraph
pub mod Program
pub mod Making

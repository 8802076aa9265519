pub mod DirectedLaws
pub mod Values
pub mod UndirectedLaws
pub mod Pairs
pub mod Alike
pub mod SideBySide

pub mod Passing
pub mod Found
pub mod SlotLaws
pub mod Moving

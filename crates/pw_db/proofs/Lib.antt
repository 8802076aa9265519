pub mod Keeping
pub mod ChoosingLaws
pub mod StoringLaws
pub mod DirectiveLaws

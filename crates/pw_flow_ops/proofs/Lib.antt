pub mod FieldChains
pub mod ChoiceLaws
pub mod PartLaws
pub mod OpLaws
pub mod EndLaws
pub mod OnwardLaws
pub mod FlatLists

pub mod ActionLaws
pub mod FieldLemmas
pub mod Found
pub mod HexadecimalLemmas
pub mod Inverse
pub mod Signs
pub mod Words
pub mod SettingLaws

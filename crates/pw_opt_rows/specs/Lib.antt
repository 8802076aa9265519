pub mod Joins
pub mod Places
pub mod Seeing
pub mod Outflows
pub mod RowLaws

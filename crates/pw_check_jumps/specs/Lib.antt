pub mod Returns
pub mod Views

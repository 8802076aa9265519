pub mod First
pub mod FromPhaseOne
pub mod Made
pub mod Second

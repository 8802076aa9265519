pub mod Less

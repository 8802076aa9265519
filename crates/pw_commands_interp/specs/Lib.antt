pub mod Interpreting

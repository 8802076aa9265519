pub mod Specifying

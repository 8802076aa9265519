pub mod Relations
mod Roots

mod ArgumentLaws
mod CallLaws
mod Continuing
mod Copying
mod LibraryLaws
pub mod LocalLaws
mod Making
mod Setting

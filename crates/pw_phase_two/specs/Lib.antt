pub mod Phases
pub mod Origins
pub mod Numbers

pub mod First
pub mod FromParse
pub mod Fronts
pub mod AnswersTree
pub mod Lexed
pub mod Places

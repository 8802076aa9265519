pub mod Numbers
pub mod Stand
pub mod FromRunLanguages

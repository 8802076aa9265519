-- The definitions of pw_parse that crates above name.
pub use Rattle.pw_parse.specs.declared.parser.ParseFault

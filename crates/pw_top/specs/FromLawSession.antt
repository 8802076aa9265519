-- The definitions of pw_law_session that crates above name.
pub use Rattle.pw_law_session.specs.FromMeaning
pub use Rattle.pw_law_session.specs.FromSession

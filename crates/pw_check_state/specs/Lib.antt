pub mod Views
pub mod PhraseViews
pub mod StateViews
pub mod Follows
pub mod Changes
pub use Rattle.pw_check_names.specs.EntityViews
pub use Rattle.pw_check_names.specs.LinkedViews

pub mod Items
pub use Rattle.pw_check_choice.specs.Views

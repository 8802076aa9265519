-- The plain data that lists of initialisers and of numbers show.
use Rattle.std.specs.Prelude.{ℕ, List}
use Rattle.std.specs.declared.alloc.Global.{Global}
use Rattle.std.specs.declared.vec.Vec.{Vec}
pub use Rattle.pw_check_state.specs.Views.{view_made}

abbrev pub view_numbers : Vec ℕ Global → List ℕ
view_numbers all = all.items

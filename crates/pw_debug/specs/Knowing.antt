-- What a debugger knows of the functions of a program.
use Rattle.std.specs.Prelude.{ℕ, ◌<◌, ◌≤◌}
use Rattle.std.specs.List.{AllByRecursion}
use Rattle.pw_db.specs.Limits.{first_register, last_register}
use Rattle.pw_debug.specs.declared.info.FrameInfo.{FrameInfo}

-- one of the registers that a callee keeps
abbrev pub IsKept : ℕ → Type 0
IsKept r = (first_register ≤ r) × (r ≤ last_register)

-- a function has a frame; it saves registers that a callee keeps alone, and has its webs in such
pub record IsFrame (i : FrameInfo) : Type 0 where
  pub frame : 0 < i.frame
  pub saved : AllByRecursion (λ s. IsKept s.0) i.saved
  pub webs : AllByRecursion (λ w. IsKept w.0.reg) i.webs

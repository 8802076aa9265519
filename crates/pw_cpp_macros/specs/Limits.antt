-- Limits of macros. Each stands here once.
use Rattle.std.specs.Prelude.{ℕ}

-- macros at once
abbrev pub macro_limit : ℕ
macro_limit = 4096

-- parameters of a macro
abbrev pub parameter_limit : ℕ
parameter_limit = 127

-- How long a module's name may be.
use Rattle.std.specs.Prelude.{ℕ}

-- bytes of a module's name, at most
abbrev pub module_name_limit : ℕ
module_name_limit = 64

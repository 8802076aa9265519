-- Parts of statements that are met (ISO C90 6.6.2).
use Rattle.std.specs.Prelude.{Bool, true, false}
use Rattle.pw_interp_todo.specs.declared.statements.Part.{Part}
use Rattle.pw_interp_todo.specs.declared.statements.Part.TheVariants as P

-- a part whose locals have their objects
abbrev pub has_objects : Part → Bool
has_objects (P.Locals i) = false
has_objects _ = true

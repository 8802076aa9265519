-- Lines that call as the convention has it.
use Rattle.std.specs.Prelude.{◌≡◌, ◌<◌}
use Rattle.pw_inst.specs.Limits.{routine_count}
use Rattle.pw_inst.specs.Registers.{return_address, routine_link}
use Rattle.pw_inst.specs.declared.line.Line.{Line}
use Rattle.pw_inst.specs.declared.line.Line.TheVariants as line
use Rattle.pw_inst.specs.declared.relocation.Symbol.TheVariants as symbol

-- a call of a function puts its return address into register 2, one of a routine into register 31
abbrev pub IsConventional : Line → Type 0
IsConventional (line.CallTo (symbol.Named f) r) = r ≡ return_address
IsConventional (line.CallTo (symbol.Routine k) r) = (r ≡ routine_link) × (k < routine_count)
IsConventional (line.CallTo s r) = ⊥
IsConventional _ = Unit {0}

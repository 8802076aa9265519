-- Which lines can be placed: each instruction has its fields in range, and each register is one of 32.
use Rattle.std.specs.Prelude.{List}
use Rattle.std.specs.List.{AllByRecursion}
use Rattle.pw_inst.specs.declared.line.Line.{Line}
use Rattle.pw_inst.specs.declared.line.Line.TheVariants.{Plain, Fixed, BranchNonZero, CallTo}
use Rattle.pw_inst.specs.InstructionTable.{IsInRange, IsRegister}

abbrev pub IsLine : Line → Type 0
IsLine (Plain i) = IsInRange i
IsLine (Fixed i k s n) = IsInRange i
IsLine (BranchNonZero r b) = IsRegister r
IsLine (CallTo s r) = IsRegister r
IsLine _ = Unit {0}

abbrev pub AreLines : List Line → Type 0
AreLines lines = AllByRecursion IsLine lines

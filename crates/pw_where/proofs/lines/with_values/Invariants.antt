-- the lines of the globals that are left go behind the text
use Rattle.std.proofs.Common.{◌≡◌, ℕ, List, Result, length}
use Rattle.pw_where.specs.Looks.{Values, behind}
use Rattle.pw_where.proofs.lines.with_values.Given as goal

abbrev pub invariant-loop-rest : goal.invariant-loop-rest
invariant-loop-rest l = (lines : Result (List ℕ) ℕ) → Values l.functions l.frames l.machine.core l.rest lines
    → (all : Result (List ℕ) ℕ) × Values l.functions l.frames l.machine.core l.globals all × (behind l.text.items lines ≡ behind l.fn.text.items all)

abbrev pub decreases-loop-rest : goal.decreases-loop-rest
decreases-loop-rest l = length l.rest

use Rattle.std.proofs.Common.{ℕ, List}
use Rattle.pw_opt_quiet.specs.Marks.{unmarked}
use Rattle.pw_opt_quiet.proofs.Telling.{Told}
use Rattle.pw_opt_quiet.proofs.quiet.tell_declared.Given as goal

abbrev pub invariant-loop-back : goal.invariant-loop-back
invariant-loop-back l = Told (λ (d : List ℕ × List ℕ). d.0) (λ (d : List ℕ × List ℕ). unmarked d.1) l.declared l.back l.fn.marks l.marks

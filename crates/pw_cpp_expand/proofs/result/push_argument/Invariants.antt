use Rattle.pw_cpp_expand.specs.Numbered.{IsAdded, IsJoined}
use Rattle.pw_cpp_expand.proofs.Results.{passed_up_to}
use Rattle.pw_cpp_expand.proofs.result.push_argument.Given as goal

-- so many tokens of the argument are added
abbrev pub invariant-loop-lexeme : goal.invariant-loop-lexeme
invariant-loop-lexeme l =
    IsJoined l.sets l.replaced.hidden l.last × IsAdded l.fn.sets l.initial.made l.sets l.made (passed_up_to l.fn.sets l.replaced.hidden l.replaced.place l.argument l.lexeme-index)

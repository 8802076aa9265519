use Rattle.pw_cpp_directives.proofs.Judging.{AreItems}
use Rattle.pw_cpp_directives.proofs.condition.items_of.Given as goal
use Rattle.pw_cpp_sets.specs.Sets.{Known}

-- so many tokens have their items
abbrev pub invariant-loop-lexeme : goal.invariant-loop-lexeme
invariant-loop-lexeme l = (known : Known) → AreItems l.source known l.tokens l.items l.lexeme-index

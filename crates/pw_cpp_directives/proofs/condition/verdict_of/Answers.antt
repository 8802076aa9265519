use Rattle.std.proofs.Common.{List, Option, Some, subst, sym}
use Rattle.pw_cpp_directives.specs.Obeying.{IsVerdictOf}
use Rattle.pw_cpp_directives.specs.declared.condition.Verdict.TheVariants.{Faulty}
use Rattle.pw_cpp_directives.proofs.condition.verdict_of.Goals as goal
use Rattle.pw_cpp_condition.specs.Grammar.{AnswersItems}
use Rattle.pw_cpp_condition.specs.declared.word.Item.{Item}

pub returns-in_default : goal.returns-in_default
returns-in_default c = let P : Option (List Item) → Type 0 = λ x. IsVerdictOf x Faulty in subst P (sym c.in_default.is) tt

pub returns : goal.returns
returns c =
    let P : Option (List Item) → Type 0 = λ x. IsVerdictOf x c.decision.result in
    let Q : List Item → Type 0 = λ x. AnswersItems x c.in_ok-value.value in
    subst P (sym c.in-Some.is) (c.decision.ensures c.in-Some.found (subst Q c.as_slice.ensures c.in_ok-value.ensures))

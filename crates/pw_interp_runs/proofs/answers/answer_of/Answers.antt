use Rattle.std.proofs.Common.{sym, subst}
use Rattle.pw_interp.specs.declared.ends.CEnd.{CEnd}
use Rattle.pw_interp.specs.declared.ends.CEnd.TheVariants as E
use Rattle.pw_interp.specs.Ends.{view_end}
use Rattle.pw_interp_runs.specs.Running.{IsRunAnswer, end_answer}
use Rattle.pw_interp_runs.proofs.answers.answer_of.Goals as goal

end_proper : (end : CEnd) → IsRunAnswer (end_answer (view_end end))
end_proper (E.Ended status) = tt
end_proper E.Stack = tt
end_proper (E.Undefined operation home token) = tt
end_proper E.Bound = tt

pub returns-in-Ok-clause-proper : goal.returns-in-Ok-clause-proper
returns-in-Ok-clause-proper c = subst IsRunAnswer (sym c.answer_of_end.ensures) (end_proper c.in-Ok.end)

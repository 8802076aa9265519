use Rattle.std.proofs.Common.{ap, refl, None}
use Rattle.pw_cmean.specs.Acts.{wrong}
use Rattle.pw_cmean.specs.SourceRun.{result_of}
use Rattle.pw_interp_calls.proofs.AnswerLaws.{gives, same, ends_so}
use Rattle.pw_interp_todo.specs.Flows.{view_flow}
use Rattle.pw_interp_steps.proofs.controls.result_of.Goals as goal

pub returns-in-Normal : goal.returns-in-Normal
unfolding result_of
returns-in-Normal c world s = same (ap (λ f. result_of (view_flow f)) c.in-Normal.is) (gives None)

pub returns-in-Returns : goal.returns-in-Returns
unfolding result_of
returns-in-Returns c world s = same (ap (λ f. result_of (view_flow f)) c.in-Returns.is) (gives c.in-Returns.value)

pub returns-in-Breaks : goal.returns-in-Breaks
unfolding result_of wrong
returns-in-Breaks c world s = same (ap (λ f. result_of (view_flow f)) c.in-Breaks.is) (ends_so refl)

pub returns-in-Continues : goal.returns-in-Continues
unfolding result_of wrong
returns-in-Continues c world s = same (ap (λ f. result_of (view_flow f)) c.in-Continues.is) (ends_so refl)

pub returns-in-Goes : goal.returns-in-Goes
unfolding result_of wrong
returns-in-Goes c world s = same (ap (λ f. result_of (view_flow f)) c.in-Goes.is) (ends_so refl)

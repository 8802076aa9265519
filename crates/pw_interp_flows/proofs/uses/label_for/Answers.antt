use Rattle.std.proofs.Common.{sym, ◌∙◌}
use Rattle.pw_typed.specs.Views.{view_cases}
use Rattle.pw_interp_flows.proofs.SwitchLaws.{no_case, with_number}
use Rattle.pw_interp_flows.proofs.uses.label_for.Goals as goal

pub returns-in-Some : goal.returns-in-Some
returns-in-Some c = c.label_of.ensures ∙ sym (with_number (view_cases c.args.cases.now) c.args.default c.args.value c.in-Some.n (sym c.number_in.ensures ∙ c.in-Some.is))

pub returns-in-None : goal.returns-in-None
returns-in-None c = sym (no_case (view_cases c.args.cases.now) c.args.default c.args.value (sym c.number_in.ensures ∙ c.in-None.is))

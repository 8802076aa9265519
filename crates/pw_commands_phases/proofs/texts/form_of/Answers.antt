use Rattle.std.proofs.Common.{Bool, refl, sym, subst}
use Rattle.pw_commands_phases.specs.First.{IsForm}
use Rattle.pw_commands_phases.proofs.texts.form_of.Goals as goal

pub returns-in_ok-optimised-clause-form : goal.returns-in_ok-optimised-clause-form
returns-in_ok-optimised-clause-form c = subst (λ (o : Bool). IsForm o c.args.flow c.in_ok-optimised.optimised) (sym c.if-optimise.true) c.in_ok-optimised.ensures

pub returns-else-optimise-clause-form : goal.returns-else-optimise-clause-form
returns-else-optimise-clause-form c = subst (λ (o : Bool). IsForm o c.args.flow c.args.flow) (sym c.if-optimise.false) refl

pub returns-in_ok-optimised-clause-lawful : goal.returns-in_ok-optimised-clause-lawful
returns-in_ok-optimised-clause-lawful c = c.optimisation_keeps_lawful.ensures c.args.flow c.in_ok-optimised.optimised c.requires c.in_ok-optimised.ensures

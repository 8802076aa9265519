use Rattle.std.proofs.Common.{◌≢◌, map, sym, ap, ◌∙◌, subst}
use Rattle.pw_db.specs.Database.{EachTwo}
use Rattle.pw_flow.specs.declared.flow.FlowFn.{FlowFn}
use Rattle.pw_phase_two.proofs.Distinct.{functions_differ}
use Rattle.pw_phase_two.proofs.directives.directives_for.Goals as goal

pub returns-clause-of_module : goal.returns-clause-of_module
returns-clause-of_module c =
    let names = c.deref.ensures.value ∙ c.in_ok-names.ensures ∙ ap (map (λ (f : FlowFn). f.name)) c.as_slice.ensures in
    record {
      functions = c.in_ok-directives.ensures.functions ∙ names;
      storable = c.in_ok-directives.ensures.can_be_stored (subst (EachTwo (λ f g. f ≢ g)) (sym names) (functions_differ c.args.flow.now c.requires.lawful));
    }

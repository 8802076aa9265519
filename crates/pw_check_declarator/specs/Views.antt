-- The plain data that the steps of declarators show.
use Rattle.std.specs.Prelude.{List, Vec, reverse}
use Rattle.std.specs.declared.alloc.Global.{Global}
use Rattle.pw_check_rules.specs.Derivations as derivations
use Rattle.pw_check_rules.specs.Derivations.{ParameterValue}
use Rattle.pw_check_state.specs.PhraseViews.{view_derivation, view_derivations, view_bound, view_parameters}
use Rattle.pw_check_state.specs.declared.phrase.Parameter.{Parameter}
use Rattle.pw_check_declarator.specs.Declaring.{StepValue}
use Rattle.pw_check_declarator.specs.declared.steps.Suffixed.{Suffixed}
use Rattle.pw_check_declarator.specs.declared.steps.Step.{Step}

abbrev pub view_step : Step → StepValue
view_step s = record { derivation = view_derivation s.derivation; bindings = view_bound s.bindings }

-- the last step of the text is the first outward
abbrev pub view_suffixed : Suffixed → derivations.Suffixed
view_suffixed c = record { derivations = view_derivations (reverse c.steps.items); bindings = view_bound c.bindings }

abbrev pub view_parameter_list : Vec Parameter Global → List ParameterValue
view_parameter_list parameters = view_parameters parameters.items

-- Kept objects that the second phase made, and what they change.
use Rattle.std.specs.Prelude.{true, map, Option, Some, None, Result, Ok, Err}
use Rattle.pw_value.specs.declared.fault.LinkFault.{LinkFault}
use Rattle.pw_flow.specs.declared.flow.FlowModule.{FlowModule}
use Rattle.pw_object.specs.declared.object.Object.{Object}
use Rattle.pw_phase_two.specs.Phases.{AreDirectivesOf, IsObjectOf}
use Rattle.pw_build_objects.specs.Programs.{DirectivesList, Parts}

-- The object is what the second phase makes of the flow graph and the directives that stand in it.
pub record IsGenuine (o : Object) : Type 0 where
  pub flow : FlowModule
  pub directives : DirectivesList
  pub of_module : AreDirectivesOf flow directives
  pub made : IsObjectOf flow directives o

abbrev pub IsGenuineIfKept : Option Object → Type 0
IsGenuineIfKept None = Unit {0}
IsGenuineIfKept (Some o) = IsGenuine o

-- the same parts, with all objects made anew
abbrev pub all_fresh : Parts → Parts
all_fresh parts = record parts { fresh = map (λ _. true) parts.objects }

abbrev pub anew : Result Parts LinkFault → Result Parts LinkFault
anew (Ok parts) = Ok (all_fresh parts)
anew (Err fault) = Err fault

-- Inside: kept objects that show to linking what their modules do.
use Rattle.std.specs.Prelude.{List, [], ◌∷◌, Option, None, Some}
use Rattle.pw_flow.specs.declared.flow.FlowModule.{FlowModule}
use Rattle.pw_summary.specs.declared.summary.Summary.{Summary}
use Rattle.pw_object.specs.declared.object.Object.{Object}
use Rattle.pw_law_shown.specs.Alike.{ShowsModule}

-- what was kept of a module, if anything was, shows what the module does
abbrev pub ShowsIfKept : List FlowModule → Option Object → FlowModule → Summary → Type 0
ShowsIfKept program None flow s = Unit {0}
ShowsIfKept program (Some o) flow s = ShowsModule program flow s o

-- so does what was kept of each module; what was kept may end early
abbrev pub ShowWhereKept : List FlowModule → List (Option Object) → List FlowModule → List Summary → Type 0
ShowWhereKept program [] flows ss = Unit {0}
ShowWhereKept program (old ∷ more) [] ss = Unit {0}
ShowWhereKept program (old ∷ more) (flow ∷ flows) [] = Unit {0}
ShowWhereKept program (old ∷ more) (flow ∷ flows) (s ∷ ss) = ShowsIfKept program old flow s × ShowWhereKept program more flows ss

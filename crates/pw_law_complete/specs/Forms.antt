-- What files have to hold of modules that are built.
use Rattle.std.specs.Prelude.{List}
use Rattle.std.specs.List.{AllByRecursion}
use Rattle.pw_flow.specs.declared.flow.FlowModule.{FlowModule}
use Rattle.pw_build_objects.specs.Programs.{AreForms}
use Rattle.pw_build_opts.specs.declared.opts.Opts.{Opts}
use Rattle.pw_law_answers.specs.Held.{HasFile}

-- files can hold the forms of the modules: their own flow graphs, or the optimised ones, as the options say
abbrev pub HaveFiles : List FlowModule → Opts → Type 0
HaveFiles flows opts = (forms : List FlowModule) → AreForms opts.optimise flows forms → AllByRecursion HasFile forms

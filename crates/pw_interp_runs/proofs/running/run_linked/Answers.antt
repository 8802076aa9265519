use Rattle.std.proofs.Common.{map}
use Rattle.pw_interp.specs.Programs.{module_of}
use Rattle.pw_store_modules.specs.Views.{source}
use Rattle.pw_interp_runs.proofs.RunLemmas.{if_some, not_run, runs_alike, unless_memory}
use Rattle.pw_interp_runs.proofs.TypedLemmas.{same_typed}
use Rattle.pw_interp_runs.proofs.running.run_linked.Goals as goal

pub returns-in-Ok-clause-runs : goal.returns-in-Ok-clause-runs
returns-in-Ok-clause-runs g c = λ k modules held typed.
    let program = c.in-Ok.program in
    let opts = c.args.opts.now in
    let rest = g.I.Source.rest c.args.input.now in
    let taken = g.O.Sink.taken c.args.out.now in
    let same = same_typed (map source c.args.modules.now) (map module_of program.modules.items) modules c.in-Ok.ensures.typed typed in
    runs_alike opts rest _ taken _ c.run_program.result (map module_of program.modules.items) modules _ _ same (c.in-Ok.ensures.frames k held) c.run_program.ensures.runs

pub returns-in-Ok-clause-typed : goal.returns-in-Ok-clause-typed
returns-in-Ok-clause-typed g c = unless_memory c.run_program.result _ (map module_of c.in-Ok.program.modules.items, c.in-Ok.ensures.typed)

pub returns-in-Err-clause-runs : goal.returns-in-Err-clause-runs
returns-in-Err-clause-runs g c = λ k modules held typed. if_some (g.I.Source.rest c.args.input.now) (λ bytes told. not_run _ bytes _ (g.O.Sink.taken c.args.out.now) told)

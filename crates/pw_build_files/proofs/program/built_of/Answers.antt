use Rattle.std.proofs.Common.{rules, ◌≢◌, map}
use Rattle.pw_value.specs.declared.fault.LinkFault.TheVariants as link
use Rattle.pw_store_modules.specs.Views.{source}
use Rattle.pw_build.specs.Builds.{first_phases}
use Rattle.pw_store_kept.specs.Kept.{kept_object}
use Rattle.pw_build_files.proofs.FaultCounts.{made_counted, not_want}
use Rattle.pw_build_files.proofs.ProgramLemmas.{as_many, few_modules, flows_counted, not_counted}
use Rattle.pw_build_files.proofs.WantLemmas.{err_proper, phases_no_want}
use Rattle.pw_build_files.proofs.program.built_of.Goals as goal

pub returns-in-Ok-clause-many : goal.returns-in-Ok-clause-many
returns-in-Ok-clause-many g c =
    as_many c.forms_keep_what_modules_have.ensures.count c.args.modules.now c.in_ok-flows.flows.items c.in_ok-kept.kept.items c.args.opts.now c.in-Ok.built c.in_ok-flows.ensures.flows c.in-Ok.ensures.built

pub returns-in-Ok-clause-few : goal.returns-in-Ok-clause-few
returns-in-Ok-clause-few g c = few_modules c.args.modules.now c.in_ok-flows.flows.items c.in_ok-flows.ensures.flows

pub returns-in_err-flows-clause-proper : goal.returns-in_err-flows-clause-proper
returns-in_err-flows-clause-proper g c =
    err_proper c.from_residual.result c.in_err-flows.field-0.0 (first_of (search (rules, c.from_residual.ensures), cc (c.from_residual.ensures)))
    (phases_no_want c.no_refusal_is_want_of_memory.ensures (map source c.args.modules.now) c.in_err-flows.field-0.0.fault c.in_err-flows.ensures.fault)

pub returns-in_err-flows-clause-bound : goal.returns-in_err-flows-clause-bound
returns-in_err-flows-clause-bound g c = not_counted (first_phases (map source c.args.modules.now)) c.args.steps.now

pub returns-in_err-kept-clause-bound : goal.returns-in_err-kept-clause-bound
returns-in_err-kept-clause-bound g c = not_counted (first_phases (map source c.args.modules.now)) c.args.steps.now

pub returns-in-Ok-clause-bound : goal.returns-in-Ok-clause-bound
returns-in-Ok-clause-bound g c =
    flows_counted (first_phases (map source c.args.modules.now)) c.in_ok-flows.flows.items c.args.steps.now c.complete.new.steps c.in_ok-flows.ensures.flows c.complete.ensures.bound

pub returns-in-Err-NoMemory-clause-bound : goal.returns-in-Err-NoMemory-clause-bound
returns-in-Err-NoMemory-clause-bound g c =
    flows_counted (first_phases (map source c.args.modules.now)) c.in_ok-flows.flows.items c.args.steps.now c.complete.new.steps c.in_ok-flows.ensures.flows c.complete.ensures.bound

pub returns-in-Err-clause-counted_fault : goal.returns-in-Err-clause-counted_fault
returns-in-Err-clause-counted_fault g c =
    let other : c.in-Err.fault ≢ link.NoMemory = search rules in
    made_counted (map source c.args.modules.now) c.in_ok-flows.flows.items c.in_ok-kept.kept.items (λ told. map (λ m. kept_object told.files m.name) c.args.modules.now) c.args.opts.now c.args.steps.now c.complete.new.steps c.in-Err.fault
    (g.S.Store.told c.args.store.now) c.in_ok-flows.ensures.flows c.in_ok-kept.ensures.objects (not_want other c.in-Err.ensures.counted_fault)

use Rattle.std.proofs.Common.{Ok, IfErr, IfOk, map}
use Rattle.std.specs.List.{AllByRecursion}
use Rattle.pw_store_modules.specs.Views.{source}
use Rattle.pw_store_kept.specs.Files.{changed_files}
use Rattle.pw_build_files.specs.Building.{BuildOutcome}
use Rattle.pw_build_files.specs.Genuine.{IsOwnFile}
use Rattle.pw_build_files.specs.Outcomes.{CountsBuilt, FaultBuilt, outcome_of}
use Rattle.pw_value.specs.Limits.{module_limit}
use Rattle.pw_build_files.proofs.BuildCounts.{counted_early}
use Rattle.pw_build_files.proofs.FileLemmas.{found_early, line_early, none_counted, none_more}
use Rattle.pw_build_files.proofs.SeenLemmas.{bound_seen, comes_seen, counts_seen, fault_seen, line_seen, on_seen}
use Rattle.pw_store_kept.proofs.KeptLemmas.{at_first}
use Rattle.pw_build_files.proofs.prepared.prepare.Goals as goal

pub returns-in-Ok-clause-comes : goal.returns-in-Ok-clause-comes
returns-in-Ok-clause-comes g c =
    comes_seen c.args.opts.now c.prepared_of.result (g.S.Store.told c.args.store.now)
    (on_seen (map source c.in-Ok.modules.items) (λ shown. IfOk c.prepared_of.result (λ p. BuildOutcome shown c.args.opts.now (Ok (outcome_of p.prepared p.objects.items))))
    (g.S.Store.told c.args.store.now) _ c.in-Ok.ensures.modules c.modules_to_build.ensures.same (rw c.deref.ensures.value at c.prepared_of.ensures.comes))

pub returns-in-Ok-clause-own : goal.returns-in-Ok-clause-own
returns-in-Ok-clause-own g c =
    at_first (λ told. IfOk c.prepared_of.result (λ p. AllByRecursion IsOwnFile (changed_files p.prepared))) (g.S.Store.told c.args.store.now) _ c.modules_to_build.ensures.same c.prepared_of.ensures.own

pub returns-in-Ok-clause-fault : goal.returns-in-Ok-clause-fault
returns-in-Ok-clause-fault g c =
    fault_seen c.args.opts.now c.prepared_of.result (g.S.Store.told c.args.store.now)
    (on_seen (map source c.in-Ok.modules.items) (λ shown. IfErr c.prepared_of.result (λ unbuilt. FaultBuilt shown c.args.opts.now unbuilt.fault))
    (g.S.Store.told c.args.store.now) _ c.in-Ok.ensures.modules c.modules_to_build.ensures.same (rw c.deref.ensures.value at c.prepared_of.ensures.fault))

pub returns-in-Ok-clause-line : goal.returns-in-Ok-clause-line
returns-in-Ok-clause-line g c =
    line_seen c.files_are_seen_in_one_way.ensures (map source c.in-Ok.modules.items) c.prepared_of.result (g.S.Store.told c.args.store.now) c.in-Ok.ensures.modules (rw c.deref.ensures.value at c.prepared_of.ensures.line)

pub returns-in-Ok-clause-counted_fault : goal.returns-in-Ok-clause-counted_fault
returns-in-Ok-clause-counted_fault g c =
    counts_seen c.files_are_seen_in_one_way.ensures c.args.opts.now c.prepared_of.result c.args.steps.now c.prepared_of.new.steps (g.S.Store.told c.args.store.now)
    (on_seen (map source c.in-Ok.modules.items) (λ shown. IfErr c.prepared_of.result (λ unbuilt. CountsBuilt shown c.args.opts.now unbuilt.fault c.args.steps.now c.prepared_of.new.steps))
    (g.S.Store.told c.args.store.now) _ c.in-Ok.ensures.modules c.modules_to_build.ensures.same (rw c.deref.ensures.value at c.prepared_of.ensures.counted_fault))

pub returns-in-Ok-clause-bound : goal.returns-in-Ok-clause-bound
returns-in-Ok-clause-bound g c =
    bound_seen c.files_are_seen_in_one_way.ensures (map source c.in-Ok.modules.items) c.args.steps.now c.prepared_of.new.steps (g.S.Store.told c.args.store.now) c.in-Ok.ensures.modules (rw c.deref.ensures.value at c.prepared_of.ensures.bound)

pub returns-in-Err-clause-fault : goal.returns-in-Err-clause-fault
returns-in-Err-clause-fault g c = found_early c.args.opts.now (g.S.Store.told c.args.store.now) c.in-Err.unbuilt.fault c.in-Err.ensures.fault

pub returns-in-Err-clause-line : goal.returns-in-Err-clause-line
returns-in-Err-clause-line g c = line_early (g.S.Store.told c.args.store.now) c.in-Err.unbuilt c.in-Err.ensures.line

pub returns-in-Err-clause-counted_fault : goal.returns-in-Err-clause-counted_fault
returns-in-Err-clause-counted_fault g c = counted_early c.files_are_seen_in_one_way.ensures c.args.opts.now (g.S.Store.told c.args.store.now) c.in-Err.unbuilt.fault c.args.steps.now c.in-Err.ensures.fault

pub returns-in-Err-clause-bound : goal.returns-in-Err-clause-bound
returns-in-Err-clause-bound g c = none_counted (g.S.Store.told c.args.store.now) c.args.steps.now

pub returns-in-Err-clause-most : goal.returns-in-Err-clause-most
returns-in-Err-clause-most g c = none_more module_limit c.args.steps.now

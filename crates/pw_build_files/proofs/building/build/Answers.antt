use Rattle.pw_store_kept.specs.Files.{changed_files}
use Rattle.pw_build_files.specs.Outcomes.{outcome_of}
use Rattle.pw_build_files.proofs.BuildCounts.{counted_putting}
use Rattle.pw_build_files.proofs.FileLemmas.{of_store_no_want}
use Rattle.pw_build_files.proofs.DrivingLemmas.{line_putting}
use Rattle.pw_build_files.proofs.GenuineLemmas.{nothing_keeps, puts_keep}
use Rattle.pw_build_files.proofs.LeavingLemmas.{nothing_leaves, puts_leave}
use Rattle.pw_build_files.proofs.ObeysLemmas.{obeys_put, obeys_refused, puts_nothing, puts_some, reported_image, reported_objects}
use Rattle.pw_build_files.proofs.building.build.Goals as goal

pub returns-in-Ok-clause-obeys : goal.returns-in-Ok-clause-obeys
returns-in-Ok-clause-obeys g c =
    obeys_put c.a_store_is_built_in_one_way.ensures c.args.opts.now c.requires.colours (outcome_of c.in-Ok.made.prepared c.in-Ok.made.objects.items) c.finished.result (g.S.Store.told c.args.store.now) _ _
    c.in-Ok.ensures.comes c.prepare.ensures.same c.finished.ensures.report c.finished.ensures.fault c.finished.ensures.put

pub returns-in-Ok-clause-image : goal.returns-in-Ok-clause-image
returns-in-Ok-clause-image g c = reported_image (outcome_of c.in-Ok.made.prepared c.in-Ok.made.objects.items) c.finished.result c.finished.ensures.report c.in-Ok.ensures.image

pub returns-in-Ok-clause-others : goal.returns-in-Ok-clause-others
returns-in-Ok-clause-others g c = puts_some (changed_files c.in-Ok.made.prepared) c.finished.result (g.S.Store.told c.args.store.now) _ _ c.prepare.ensures.same c.in-Ok.ensures.own c.finished.ensures.fault c.finished.ensures.put

pub returns-in-Ok-clause-rest : goal.returns-in-Ok-clause-rest
returns-in-Ok-clause-rest g c =
    puts_leave (record { inserted = c.other_files.ensures.inserted; removed = c.other_files.ensures.removed; insertion = c.other_files.ensures.insertion; removal = c.other_files.ensures.removal })
    (g.S.Store.told c.args.store.now) _ _ (changed_files c.in-Ok.made.prepared) c.finished.result c.prepare.ensures.same c.in-Ok.ensures.own c.finished.ensures.fault c.finished.ensures.put

pub returns-in-Ok-clause-genuine : goal.returns-in-Ok-clause-genuine
returns-in-Ok-clause-genuine g c =
    puts_keep (record { inserted = c.other_files.ensures.inserted; removed = c.other_files.ensures.removed; insertion = c.other_files.ensures.insertion; removal = c.other_files.ensures.removal })
    (g.S.Store.told c.args.store.now) _ _ (changed_files c.in-Ok.made.prepared) c.finished.result c.prepare.ensures.same c.in-Ok.ensures.own c.finished.ensures.fault c.finished.ensures.put

pub returns-in-Err-clause-obeys : goal.returns-in-Err-clause-obeys
returns-in-Err-clause-obeys g c = obeys_refused c.a_store_is_built_in_one_way.ensures c.args.opts.now c.requires.colours c.in-Err.unbuilt (g.S.Store.told c.args.store.now) _ c.in-Err.ensures.fault c.prepare.ensures.same

pub returns-in-Err-clause-others : goal.returns-in-Err-clause-others
returns-in-Err-clause-others g c = puts_nothing c.in-Err.unbuilt.fault (g.S.Store.told c.args.store.now) _ c.prepare.ensures.same

pub returns-in-Err-clause-rest : goal.returns-in-Err-clause-rest
returns-in-Err-clause-rest g c = nothing_leaves (g.S.Store.told c.args.store.now) _ c.prepare.ensures.same

pub returns-in-Err-clause-genuine : goal.returns-in-Err-clause-genuine
returns-in-Err-clause-genuine g c = nothing_keeps (g.S.Store.told c.args.store.now) _ c.prepare.ensures.same

pub returns-in-Ok-clause-proper : goal.returns-in-Ok-clause-proper
returns-in-Ok-clause-proper g c = of_store_no_want c.finished.result c.finished.ensures.fault

pub returns-in-Ok-clause-counted_fault : goal.returns-in-Ok-clause-counted_fault
returns-in-Ok-clause-counted_fault g c = counted_putting c.args.opts.now (g.S.Store.told c.args.store.now) c.finished.result c.args.steps.now _ c.finished.ensures.fault

pub returns-in-Ok-clause-were_made : goal.returns-in-Ok-clause-were_made
returns-in-Ok-clause-were_made g c = reported_objects (outcome_of c.in-Ok.made.prepared c.in-Ok.made.objects.items) c.finished.result c.finished.ensures.report c.in-Ok.ensures.were_made

pub returns-in-Ok-clause-line : goal.returns-in-Ok-clause-line
returns-in-Ok-clause-line g c = line_putting c.finished.result (g.S.Store.told c.args.store.now) c.finished.ensures.fault

use Rattle.std.proofs.Common.{map, refl, sym, subst}
use Rattle.pw_store_modules.specs.Views.{source}
use Rattle.pw_store_kept.specs.Kept.{kept_object}
use Rattle.pw_build_files.specs.Outcomes.{HoldsImage}
use Rattle.pw_build_files.proofs.BuildCounts.{counted_late}
use Rattle.pw_build_files.proofs.FileLemmas.{comes_prepared, found_late}
use Rattle.pw_build_files.proofs.GenuineLemmas.{good_prepared}
use Rattle.pw_build_files.proofs.prepared.prepared_of.Goals as goal

pub returns-in_ok-compared-in-Ok-clause-comes : goal.returns-in_ok-compared-in-Ok-clause-comes
returns-in_ok-compared-in-Ok-clause-comes g c =
    comes_prepared (record { object = c.built_files_are_seen.ensures.object; database = c.built_files_are_seen.ensures.database; image = c.built_files_are_seen.ensures.image })
    c.args.opts.now (g.S.Store.told c.args.store.now) _ c.args.modules.now c.in-Ok.linked.files c.in_ok-compared-in-Ok.field-0 c.in-Ok.linked.objects.items _ c.in-Ok.ensures.files c.in-Ok.ensures.bytes c.program_of.ensures.same refl c.in_ok-compared-in-Ok.ensures.prepared

pub returns-in_ok-compared-in-Ok-clause-own : goal.returns-in_ok-compared-in-Ok-clause-own
returns-in_ok-compared-in-Ok-clause-own g c =
    good_prepared c.args.opts.now (g.S.Store.told c.args.store.now) _ (map source c.args.modules.now) (λ told. map (λ m. kept_object told.files m.name) c.args.modules.now) c.in-Ok.linked.files c.in_ok-compared-in-Ok.field-0 c.in-Ok.linked.objects.items _
    c.in-Ok.ensures.files c.in-Ok.ensures.bytes c.program_of.ensures.same c.in_ok-compared-in-Ok.ensures.prepared

pub returns-in-Err-clause-fault : goal.returns-in-Err-clause-fault
returns-in-Err-clause-fault g c =
    found_late (record { object = c.built_files_are_seen.ensures.object; database = c.built_files_are_seen.ensures.database; image = c.built_files_are_seen.ensures.image })
    c.args.opts.now (g.S.Store.told c.args.store.now) c.args.modules.now c.in-Err.unbuilt.fault c.in-Err.ensures.fault

pub returns-in_ok-compared-in-Ok-clause-image : goal.returns-in_ok-compared-in-Ok-clause-image
returns-in_ok-compared-in-Ok-clause-image g c = subst HoldsImage (sym c.in_ok-compared-in-Ok.ensures.image) c.in-Ok.ensures.image

pub returns-in-Err-clause-counted_fault : goal.returns-in-Err-clause-counted_fault
returns-in-Err-clause-counted_fault g c =
    counted_late (record { object = c.built_files_are_seen.ensures.object; database = c.built_files_are_seen.ensures.database; image = c.built_files_are_seen.ensures.image })
    c.args.opts.now (g.S.Store.told c.args.store.now) c.args.modules.now c.in-Err.unbuilt.fault c.args.steps.now c.program_of.new.steps c.in-Err.ensures.counted_fault

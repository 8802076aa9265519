use Rattle.std.proofs.Common.{◌∷◌, [], ap, arith, map, refl, ◌∙◌}
use Rattle.std.proofs.lemmas.List.{map-append}
use Rattle.pw_interp.specs.Programs.{module_of}
use Rattle.pw_store_modules.specs.Views.{source}
use Rattle.pw_store_modules.proofs.ModuleLemmas.{mapped_rest}
use Rattle.pw_store_kept.proofs.KeptLemmas.{mapped_none}
use Rattle.pw_interp_runs.proofs.TypedLemmas.{typed_all, typed_none, typed_step}
use Rattle.pw_interp_runs.proofs.programs.typed_modules.Goals as goal

pub loop-which-init : goal.loop-which-init
loop-which-init c = typed_none (map source c.args.modules.now) _ _ refl (ap (map module_of) c.new-typed.ensures.items)

pub loop-which-preserved : goal.loop-which-preserved
loop-which-preserved c =
    let next = mapped_rest source c.args.modules.now c.loop-which.which-index c.which-item.result (omega arith) c.which-item.is in
    typed_step (map source c.args.modules.now) _ _ (source c.which-item.result) (map module_of c.loop-which.typed.items) _ (module_of c.in_ok-typed_module.field-0) c.loop-which.invariant next
    (ap (map module_of) c.in_ok-push.ensures.items ∙ map-append module_of c.loop-which.typed.items (c.in_ok-typed_module.field-0 ∷ [])) c.in_ok-typed_module.ensures

pub returns : goal.returns
returns c = typed_all (map source c.args.modules.now) _ _ c.loop-which.invariant (mapped_none source c.args.modules.now c.loop-which.which-index (omega arith))

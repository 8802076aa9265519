-- The optimised form of a module, function by function.
use Rattle.std.specs.Prelude.{◌*◌, List, [], ◌∷◌, length}
use Rattle.std.proofs.Common.{refl, inl, inr}
use Rattle.std.proofs.lemmas.Bool.{cases_lt}
use Rattle.pw_flow.specs.declared.flow.Op.{Op}
use Rattle.pw_flow.specs.declared.flow.FlowFn.{FlowFn}
use Rattle.pw_flow.specs.declared.flow.FlowModule.{FlowModule}
use Rattle.pw_opt_rules.specs.declared.flat.Flat.{Flat}
use Rattle.pw_opt_rules.specs.Rows.{IsLeastSolution}
use Rattle.pw_opt_rules.specs.Rewriting.{Rewriting, rewritten_blocks, with_blocks, IsRewritten}
use Rattle.pw_opt_rules.specs.Constants.{constant_transfer, constants}
use Rattle.pw_opt_rules.specs.Copies.{copy_transfer, copies}
use Rattle.pw_opt_rules.specs.Dead.{without_dead}
use Rattle.pw_opt_rules.specs.Optimised.{optimise_limit, IsOptimised, stays, steps, AreOptimised, none, also, IsOptimisedModule}
use Rattle.pw_opt_order.specs.Rises.{Rises}

module _ (least : (transfer : List Flat → Op → List Flat) → Rises transfer → (f : FlowFn) → (rows : List (List Flat)) × IsLeastSolution transfer f rows) (words : Rises constant_transfer)
    (temps : Rises copy_transfer) where
  rewritten : (w : Rewriting) → Rises w.transfer → (f : FlowFn) → (g : FlowFn) × IsRewritten w f g
  rewritten w r f = let s = least w.transfer r f in (with_blocks f (rewritten_blocks w s.0 f.blocks), record { rows = s.0; known = s.1; is = refl })

  function_form : (m : FlowModule) (f : FlowFn) → (g : FlowFn) × IsOptimised m f g
  function_form m f = elim (cases_lt optimise_limit (f.temps * length f.blocks)) [
    | inl large ↦ (f, stays large)
    | inr small ↦
        let folded = rewritten constants words f in
        let copied = rewritten copies temps folded.0 in
        (without_dead m copied.0, steps folded.0 copied.0 small folded.1 copied.1)
  ]

  functions_form : (m : FlowModule) (fs : List FlowFn) → (gs : List FlowFn) × AreOptimised m fs gs
  functions_form m [] = ([], none)
  functions_form m (f ∷ fs) =
      let g = function_form m f in
      let rest = functions_form m fs in
      (g.0 ∷ rest.0, also f g.0 fs rest.0 g.1 rest.1)

  pub module_form : (m : FlowModule) → (n : FlowModule) × IsOptimisedModule m n
  module_form m =
      let gs = functions_form m m.functions in
      (record m { functions = gs.0 }, record { name = refl; globals = refl; declared = refl; functions = gs.1 })

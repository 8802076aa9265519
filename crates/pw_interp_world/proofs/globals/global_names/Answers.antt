use Rattle.std.proofs.Common.{ℕ, List, sym, ap, ◌∙◌, ◌++◌, map}
use Rattle.pw_types.specs.TypedTrees.{GlobalValue}
use Rattle.pw_typed.specs.Views.{view_module}
use Rattle.pw_cmean.specs.Worlds as worlds
use Rattle.pw_interp_world.proofs.NumberLemmas.{modules_more}
use Rattle.pw_interp_world.proofs.globals.global_names.Goals as goal

pub loop-part-preserved : goal.loop-part-preserved
loop-part-preserved c =
    c.in_ok-add_names.ensures
    ∙ (ap (λ (names : List (List ℕ)). names ++ map (λ (g : GlobalValue). worlds.full_name c.part-item.result.name.now g.name) (view_module c.part-item.result.tree.now).globals) c.loop-part.invariant
    ∙ sym (modules_more (λ m. map (λ (g : GlobalValue). worlds.full_name m.name g.name) m.tree.globals) c.args.parts.now c.loop-part.part-index c.part-item.result c.loop-part-test.true c.part-item.is))

use Rattle.std.proofs.Common.{◌≡◌, map, take}
use Rattle.pw_check_state.specs.PhraseViews.{view_derivations}
use Rattle.pw_check_rules.specs.Derivations.{pointer_step}
use Rattle.pw_tree.specs.Views.{view_pointers}
use Rattle.pw_check_declarator.proofs.steps.pointer_steps.Given as goal

abbrev pub invariant-loop-pointer : goal.invariant-loop-pointer
invariant-loop-pointer l = view_derivations l.steps.items ≡ map pointer_step (view_pointers (take l.pointer-index l.pointers))

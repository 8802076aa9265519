use Rattle.std.proofs.Common.{ℕ, List, [], ◌∷◌, ◌++◌, map, take, sym, ap, ◌∙◌}
use Rattle.pw_milli.specs.Library.{routines}
use Rattle.pw_link.proofs.Growing.{has_name, names_more, first}
use Rattle.pw_link.proofs.text.routine_names.Goals as goal

pub within-requires : goal.within-requires
within-requires c = has_name c.library-routine-items.result.now c.loop-routine.routine-index _ c.loop-routine-test.true c.library-routine-items.ensures

pub loop-routine-preserved : goal.loop-routine-preserved
loop-routine-preserved c =
    c.in_ok-push.ensures.items
    ∙ ap (λ (names : List (List ℕ)). names ++ c.in_ok-within.field-0 ∷ []) c.loop-routine.invariant
    ∙ ap (λ (name : List ℕ). map first (take c.loop-routine.routine-index routines) ++ name ∷ []) c.in_ok-within.ensures
    ∙ sym (names_more c.library-routine-items.result.now c.loop-routine.routine-index _ c.loop-routine-test.true routines c.library-routine-items.ensures)

use Rattle.std.proofs.Common.{ap, sym, ◌∙◌}
use Rattle.std.specs.Prelude.{option_map, option_and_then, slice_get}
use Rattle.pw_value.specs.declared.value.Value.TheVariants as V
use Rattle.pw_value.specs.declared.value.Pointer.TheVariants as P
use Rattle.pw_cmean.specs.Evaluation.{local_place}
use Rattle.pw_interp_acts.proofs.NodeLaws.{needs, itself, needed_known}
use Rattle.pw_interp_acts.proofs.places.local_place.Goals as goal

pub returns-clause-answers : goal.returns-clause-answers
unfolding local_place
returns-clause-answers c s =
    needs c.object_place.result s
    (ap (λ xs. option_map (λ number. V.At (P.Object number 0)) (option_and_then (λ n. n) (slice_get xs c.args.local))) (sym c.deref.ensures.value)
    ∙ sym c.object_place.ensures
    ∙ sym (itself c.object_place.result))
    c.need.ensures

pub returns-clause-no_memory : goal.returns-clause-no_memory
returns-clause-no_memory c = needed_known c.object_place.result c.need.ensures

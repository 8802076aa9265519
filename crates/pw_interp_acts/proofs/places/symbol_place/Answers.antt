use Rattle.std.proofs.Common.{rules, ap, sym, ◌∙◌}
use Rattle.std.specs.Prelude.{option_map}
use Rattle.pw_value.specs.declared.value.Value.TheVariants as V
use Rattle.pw_cmean.specs.Evaluation.{symbol_place}
use Rattle.pw_cmean.specs.Worlds.{pointer_to}
use Rattle.pw_interp_calls.specs.Views.{view_env}
use Rattle.pw_interp_calls.proofs.AnswerLaws.{no_memory}
use Rattle.pw_interp_acts.proofs.NodeLaws.{needs, itself}
use Rattle.pw_interp_acts.proofs.places.symbol_place.Goals as goal

pub returns-in_err-name : goal.returns-in_err-name
returns-in_err-name c s = no_memory (search rules)

pub returns : goal.returns
unfolding symbol_place
returns c s =
    needs c.pointed_place.result s
    (ap (λ n. option_map V.At (pointer_to (view_env c.args.env.now).world.program n 0)) (sym (c.as_bytes.ensures.bytes ∙ c.in_ok-name.ensures))
    ∙ ap (option_map V.At) (sym c.pointer_to.ensures)
    ∙ sym c.pointed_place.ensures
    ∙ sym (itself c.pointed_place.result))
    c.need.ensures

use Rattle.std.proofs.Common.{rules, ap, sym, ◌∙◌}
use Rattle.pw_cmean.specs.Worlds.{function_named}
use Rattle.pw_interp_calls.specs.Views.{view_env}
use Rattle.pw_interp_calls.proofs.AnswerLaws.{no_memory}
use Rattle.pw_interp_acts.proofs.NodeLaws.{needs}
use Rattle.pw_interp_acts.proofs.places.function_of.Goals as goal

pub returns-in_err-name : goal.returns-in_err-name
returns-in_err-name c s = no_memory (search rules)

pub returns : goal.returns
returns c s =
    needs c.function_named.result s
    (ap (function_named (view_env c.args.env.now).world.program) (sym (c.as_bytes.ensures.bytes ∙ c.in_ok-name.ensures)) ∙ sym c.function_named.ensures)
    c.need.ensures

use Rattle.std.proofs.Common.{ap, ◌∙◌}
use Rattle.std.proofs.lemmas.Result.{IfOk-weaker}
use Rattle.pw_check_stmt.specs.Views.{view_body}
use Rattle.pw_typed.specs.Views.{view_function}
use Rattle.pw_check_functions.proofs.functions.function_of.Goals as goal

pub returns : goal.returns
returns c = IfOk-weaker c.new.result _ _ (λ f made. ap view_function made ∙ c.with.ensures ∙ c.in_ok-outline.ensures (view_body c.args.body)) c.new.ensures

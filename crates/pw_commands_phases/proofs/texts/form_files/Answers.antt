use Rattle.std.proofs.lemmas.Result.{IfOk-weaker}
use Rattle.pw_commands_phases.proofs.texts.form_files.Goals as goal

pub returns : goal.returns
returns c = IfOk-weaker c.files_of.result _ _ (λ made are. record { form = c.in_ok-form.form; of_flow = c.in_ok-form.ensures.form; bytes_of = are }) c.files_of.ensures

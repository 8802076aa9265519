use Rattle.std.proofs.Common.{sym, ◌∙◌}
use Rattle.pw_value.specs.declared.program_names.StartName.TheVariants.{Refused}
use Rattle.pw_value.proofs.StartLaws.{place_forth, place_back}
use Rattle.pw_value.proofs.program_names.is_ordinary.Goals as goal

pub returns : goal.returns
returns c = (λ h. place_forth Refused c.args.name.now (sym c.is_allowed.ensures ∙ h), λ h. c.is_allowed.ensures ∙ place_back Refused c.args.name.now h)

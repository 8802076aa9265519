use Rattle.std.proofs.Common.{◌∙◌, ap, sym}
use Rattle.pw_check_rules.specs.Initialisers.{IsString}
use Rattle.pw_tree.specs.Views.{view_words}
use Rattle.pw_check_init_parts.proofs.FormLemmas.{other_form, string_shown}
use Rattle.pw_check_init_parts.proofs.forms.string_form.Goals as goal

pub returns-in-Strings : goal.returns-in-Strings
returns-in-Strings c =
    ap (λ ws. IsString (view_words ws)) c.as_slice.ensures.value
    ∙ sym (string_shown c.args.e.now c.in-Strings.words c.in-Strings.is)

pub returns-in_default : goal.returns-in_default
returns-in_default c = sym (other_form c.args.e.now c.in_default.not-Strings)

use Rattle.std.proofs.Common.{refl, sym, ap, ◌∙◌}
use Rattle.std.specs.Prelude.{option_map}
use Rattle.pw_types.specs.Views.{view_qtype}
use Rattle.pw_typed.specs.Views.{view_form}
use Rattle.pw_interp_calls.specs.Views.{view_env}
use Rattle.pw_interp_todo.specs.Asking.{view_asked}
use Rattle.pw_interp_todo.proofs.LeadLaws.{left_so, same_lead}
use Rattle.pw_interp_todo.proofs.Splits.{split_answer}
use Rattle.pw_interp_asks.proofs.asks.ask_answer.Goals as goal

pub answer_alone-requires : goal.answer_alone-requires
answer_alone-requires c = sym c.answer_first.ensures ∙ ap (option_map view_asked) c.in-None.is

pub returns-in-Some : goal.returns-in-Some
returns-in-Some c bound =
    let e = c.args.e.now in
    left_so _ refl (same_lead (split_answer (view_env c.args.env.now) bound e.token (view_qtype e.ty) (view_form e.form) (sym c.answer_first.ensures ∙ ap (option_map view_asked) c.in-Some.is)))

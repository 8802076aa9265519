use Rattle.std.proofs.Common.{rules, false, refl, ap, ◌∙◌}
use Rattle.pw_tree.specs.FirstTokens.{first_of_words}
use Rattle.pw_tree.specs.Views.{view_words}
use Rattle.pw_typed.specs.Views.{view_form}
use Rattle.pw_types.specs.TypedTrees as T
use Rattle.pw_check_rules.specs.Leaves.{lvalue_operand, note_string, string_point, string_rule, string_type}
use Rattle.pw_check_rules.specs.States.{next_hidden}
use Rattle.pw_check_walk.proofs.CallLaws.{step_ok, step_err}
use Rattle.pw_check_walk.specs.Walks.{Done, bind}
use Rattle.pw_check_leaves.specs.Parts.{string_bytes_rule}
use Rattle.pw_check_leaves.proofs.PointLaws.{done}
use Rattle.pw_check_leaves.proofs.strings.string_rule.Goals as goal

pub returns-in_err-bytes : goal.returns-in_err-bytes
unfolding string_rule string_bytes_rule string_point bind
returns-in_err-bytes c =
    let ws = view_words c.args.words.now in
    step_err
    (λ t. Done (lvalue_operand false (T.Node (first_of_words ws) (string_type t.0) (T.Str (next_hidden t.1))), note_string t.0 t.1))
    c.string_bytes.ensures c.in_err-bytes.was (search rules)

pub returns : goal.returns
unfolding string_rule string_bytes_rule string_point bind view_form
returns c =
    let ws = view_words c.args.words.now in
    step_ok
    (λ t. Done (lvalue_operand false (T.Node (first_of_words ws) (string_type t.0) (T.Str (next_hidden t.1))), note_string t.0 t.1))
    c.string_bytes.ensures c.in_ok-bytes.was
    (done {made = c.in_ok-lvalue_operand.field-0} _ _ refl
    (c.in_ok-lvalue_operand.ensures
    ∙ ap (λ q. lvalue_operand false (T.Node c.first_of_words-token.result q (T.Str c.in_ok-number.number))) (c.in_ok-ty.ensures ∙ ap string_type c.deref.ensures.value)
    ∙ ap (λ t. lvalue_operand false (T.Node t (string_type c.in_ok-bytes.bytes.items) (T.Str c.in_ok-number.number))) c.first_of_words-token.ensures
    ∙ ap (λ k. lvalue_operand false (T.Node (first_of_words ws) (string_type c.in_ok-bytes.bytes.items) (T.Str k))) c.in_ok-number.ensures.number)
    (search rules))

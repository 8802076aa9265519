use Rattle.std.proofs.Common.{rules, sym, ap, ◌∙◌}
use Rattle.pw_check_state.specs.PhraseViews.{view_specified}
use Rattle.pw_check_state.specs.StateViews.{view_state}
use Rattle.pw_tree.specs.Views.{view_initializer, view_word}
use Rattle.pw_types.specs.Views.{view_qtype}
use Rattle.pw_check_walk.proofs.CallLaws.{step_ok, step_err}
use Rattle.pw_check_init_parts.proofs.WalkLemmas.{same_walk}
use Rattle.std.specs.Prelude.{◌≡◌, is_some}
use Rattle.pw_check_state.specs.PhraseViews.{view_spot}
use Rattle.pw_check_decl_names.specs.Views.{view_sort}
use Rattle.pw_check_rules.specs.Declarations.{declare_rule, name_rule, sort_of}
use Rattle.pw_check_rules.specs.States.{is_file_scope}
use Rattle.pw_check_decl.proofs.DeclLemmas.{initializer_shown, named_joined}
use Rattle.pw_check_decl.proofs.decls.named_rule.Goals as goal

pub returns-in_err-name_rule : goal.returns-in_err-name_rule
returns-in_err-name_rule g c =
    let e : sort_of (is_file_scope (view_state c.args.state.now)) (view_specified c.args.specified.now) (view_qtype c.args.q) ≡ view_sort c.sort_of-sort.result = ap (λ o. sort_of o (view_specified c.args.specified.now) (view_qtype c.args.q)) (sym c.is_file_scope.ensures) ∙ sym c.sort_of-sort.ensures in
    let i : is_some (view_initializer c.args.initializer.now) ≡ c.is_some-initialised.result = initializer_shown c.args.initializer.now ∙ sym c.is_some-initialised.ensures in
    same_walk (named_joined (view_specified c.args.specified.now) (view_spot c.args.spot.now) (view_word c.args.word.now) (view_qtype c.args.q) (view_initializer c.args.initializer.now) (view_state c.args.state.now)) (step_err _ (same_walk (λ j. name_rule (e j) (view_spot c.args.spot.now) (view_word c.args.word.now) (i j) (view_specified c.args.specified.now) (view_qtype c.args.q) (view_state c.args.state.now)) c.name_rule.ensures) c.in_err-name_rule.was (search rules))

pub returns : goal.returns
returns g c =
    let e : sort_of (is_file_scope (view_state c.args.state.now)) (view_specified c.args.specified.now) (view_qtype c.args.q) ≡ view_sort c.sort_of-sort.result = ap (λ o. sort_of o (view_specified c.args.specified.now) (view_qtype c.args.q)) (sym c.is_file_scope.ensures) ∙ sym c.sort_of-sort.ensures in
    let i : is_some (view_initializer c.args.initializer.now) ≡ c.is_some-initialised.result = initializer_shown c.args.initializer.now ∙ sym c.is_some-initialised.ensures in
    same_walk (named_joined (view_specified c.args.specified.now) (view_spot c.args.spot.now) (view_word c.args.word.now) (view_qtype c.args.q) (view_initializer c.args.initializer.now) (view_state c.args.state.now)) (step_ok _ (same_walk (λ j. name_rule (e j) (view_spot c.args.spot.now) (view_word c.args.word.now) (i j) (view_specified c.args.specified.now) (view_qtype c.args.q) (view_state c.args.state.now)) c.name_rule.ensures) c.in_ok-name_rule.was
    (same_walk (λ j. declare_rule (e j) (view_word c.args.word.now) (view_specified c.args.specified.now) (view_spot c.args.spot.now) (view_qtype c.args.q) (view_initializer c.args.initializer.now) (view_state c.args.state.now)) (c.declare_rule.ensures _)))

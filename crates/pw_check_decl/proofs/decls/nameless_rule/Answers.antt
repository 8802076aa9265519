use Rattle.std.specs.Prelude.{◌≡◌}
use Rattle.std.proofs.Common.{rules, sym, ap, ◌∙◌}
use Rattle.pw_check_state.specs.PhraseViews.{view_specified, view_spot}
use Rattle.pw_check_state.specs.StateViews.{view_state}
use Rattle.pw_types.specs.Views.{view_qtype}
use Rattle.pw_check_walk.specs.Walks.{outcome}
use Rattle.pw_check_walk.proofs.CallLaws.{made_by, step_err}
use Rattle.pw_check_init_parts.proofs.WalkLemmas.{same_walk}
use Rattle.pw_check_decl_names.specs.Views.{view_sort}
use Rattle.pw_check_rules.specs.Declarations.{name_rule, sort_of}
use Rattle.pw_check_decl.specs.Parts.{nobody}
use Rattle.pw_check_rules.specs.States.{is_file_scope}
use Rattle.pw_check_decl.proofs.DeclLemmas.{named_joined}
use Rattle.pw_check_decl.proofs.NameLemmas.{never_named}
use Rattle.pw_check_decl.proofs.decls.nameless_rule.Goals as goal

pub returns-in_err-name_rule : goal.returns-in_err-name_rule
returns-in_err-name_rule c i is =
    let s = view_state c.args.state.now in
    let b = view_specified c.args.specified.now in
    let q = view_qtype c.args.q.now in
    let e : sort_of (is_file_scope s) b q ≡ view_sort c.sort_of-sort.result = ap (λ o. sort_of o b q) (sym c.is_file_scope.ensures) ∙ sym c.sort_of-sort.ensures in
    let t = sym c.new-text.ensures.items in
    same_walk (named_joined b (view_spot c.args.spot.now) nobody q i s)
    (step_err _ (same_walk (λ j. name_rule (e j) (view_spot c.args.spot.now) (record { token = 0; text = t j }) (is j) b q s) c.name_rule.ensures) c.in_err-name_rule.was (search rules))

pub unreachable-requires : goal.unreachable-requires
unreachable-requires c =
    absurd (never_named (view_sort c.sort_of-sort.result) (view_spot c.args.spot.now) c.args.initialised (view_specified c.args.specified.now) (view_qtype c.args.q.now) (view_state c.args.state.now) _
    (ap (λ t. outcome (name_rule (view_sort c.sort_of-sort.result) (view_spot c.args.spot.now) (record { token = 0; text = t }) c.args.initialised (view_specified c.args.specified.now) (view_qtype c.args.q.now) (view_state c.args.state.now))) (sym c.new-text.ensures.items)
    ∙ made_by c.name_rule.ensures c.in_ok-name_rule.was))
